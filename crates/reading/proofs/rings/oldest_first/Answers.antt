use Rattle.std.proofs.Common.{◌∙◌, sym, rules}
use Rattle.std.proofs.lemmas.List.{map-id}
use Rattle.samples.proofs.Calls.{made}
use Rattle.reading.specs.Readouts.{told_at}
use Rattle.reading.proofs.rings.oldest_first.Goals as goal

pub returns : goal.returns
returns c =
    sym (map-id c.from_fn.result)
    ∙ made _ (λ x. x) (told_at c.args.resolution c.args.readout.now) _ _ _ (λ i y q l k. search rules) 0 c.from_fn.ensures.items
