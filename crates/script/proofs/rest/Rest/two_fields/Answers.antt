use Rattle.std.proofs.Common.{◌∷◌, ◌++◌, ◌∙◌}
use Rattle.script.specs.declared.class.Class.TheVariants.{Space}
use Rattle.script.specs.Grammar.{one}
use Rattle.script.specs.Steps.{parts}
use Rattle.script.proofs.Steps.{handed_on, fails_at, passed_on, taken_on, missed_at, missed_last, two_whole}
use Rattle.script.proofs.rest.Rest.two_fields.Goals as goal

pub returns-in_err-first : goal.returns-in_err-first
returns-in_err-first c =
    let last = one Space ∷ parts c.args.kind in
    handed_on _ _ _ _ c.from_residual-in_err-first.ensures.1 (passed_on c.in_ok-pass.ensures (parts c.args.kind ++ last) ∙ missed_at c.in_err-first.ensures last)

pub returns-in_err-pass-2 : goal.returns-in_err-pass-2
returns-in_err-pass-2 c =
    let last = one Space ∷ parts c.args.kind in
    handed_on _ _ _ _ c.from_residual-in_err-pass-2.ensures.1
    (passed_on c.in_ok-pass.ensures (parts c.args.kind ++ last) ∙ taken_on c.in_ok-first.ensures last ∙ fails_at c.in_err-pass-2.ensures (parts c.args.kind))

pub returns-in_err-second : goal.returns-in_err-second
returns-in_err-second c =
    let last = one Space ∷ parts c.args.kind in
    handed_on _ _ _ _ c.from_residual-in_err-second.ensures.1
    (passed_on c.in_ok-pass.ensures (parts c.args.kind ++ last)
    ∙ taken_on c.in_ok-first.ensures last
    ∙ passed_on c.in_ok-pass-2.ensures (parts c.args.kind)
    ∙ missed_last c.in_err-second.ensures)

pub returns : goal.returns
returns c = two_whole c.in_ok-pass.ensures c.in_ok-first.ensures c.in_ok-pass-2.ensures c.in_ok-second.ensures c.in_ok-end.ensures
