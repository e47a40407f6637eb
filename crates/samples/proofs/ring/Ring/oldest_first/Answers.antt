use Rattle.std.proofs.Common.{◌≡◌, ◌∙◌, refl, sym, length, get_or, rules}
use Rattle.std.proofs.lemmas.List.{length-map}
use Rattle.std.proofs.lemmas.List.FromFn.{fill_by_all}
use Rattle.samples.specs.History.{content, turned}
use Rattle.samples.proofs.Calls.{made}
use Rattle.samples.proofs.Rounds.{length_turned, getD_map_turned}
use Rattle.samples.proofs.ring.Ring.oldest_first.Goals as goal

-- the length of the array behind `self` is known from a call that has read it
pub returns : goal.returns
returns c =
    let ring = c.args.self.now in
    let first = c.from_fn.ensures.items.each.3 in
    let fifty : length ring.samples ≡ 50 = search rules in
    let full : length (content ring) ≡ 50 = length-map (turned ring.samples ring.oldest) (λ s. s.value) ∙ length_turned ring.samples ring.oldest ∙ fifty in
    made _ (λ s. s.value) (λ i. get_or (content ring) i 0) _ _ _ (λ i y q l k. search (rules, getD_map_turned)) 0 c.from_fn.ensures.items
    ∙ sym (fill_by_all (λ i. get_or (content ring) i 0) (content ring) 50 0 full (λ i l. refl))
