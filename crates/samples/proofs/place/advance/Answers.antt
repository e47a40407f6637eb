use Rattle.std.proofs.Common.{◌≡◌, ◌+◌, ◌%◌, ◌<◌, ◌≤◌, false, eqb, sym, ◌∙◌, rules}
use Rattle.std.proofs.lemmas.Bool.{cond-false}
use Rattle.samples.proofs.Rounds.{on_within, on_round}
use Rattle.samples.proofs.place.advance.Goals as goal

pub returns-then-ahead-left : goal.returns-then-ahead-left
returns-then-ahead-left c =
    let some : eqb c.args.length 0 ≡ false = search rules in
    let within : c.args.place % c.args.length + c.args.steps % c.args.length < c.args.length = search rules in
    on_within c.args.place c.args.steps c.args.length within ∙ sym (cond-false (eqb c.args.length 0) 0 _ some)

pub returns-else-ahead-left : goal.returns-else-ahead-left
returns-else-ahead-left c =
    let some : eqb c.args.length 0 ≡ false = search rules in
    let pos : 0 < c.args.length = search rules in
    let round : c.args.length ≤ c.args.place % c.args.length + c.args.steps % c.args.length = search rules in
    on_round c.args.place c.args.steps c.args.length pos round ∙ sym (cond-false (eqb c.args.length 0) 0 _ some)
