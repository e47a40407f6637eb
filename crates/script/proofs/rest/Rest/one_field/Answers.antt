use Rattle.std.proofs.Common.{◌∙◌}
use Rattle.script.specs.Steps.{parts}
use Rattle.script.proofs.Steps.{handed_on, passed_on, missed_last, one_whole}
use Rattle.script.proofs.rest.Rest.one_field.Goals as goal

pub returns-in_err-only : goal.returns-in_err-only
returns-in_err-only c =
    handed_on _ _ _ _ c.from_residual-in_err-only.ensures.1 (passed_on c.in_ok-pass.ensures (parts c.args.kind) ∙ missed_last c.in_err-only.ensures)

pub returns : goal.returns
returns c = one_whole c.in_ok-pass.ensures c.in_ok-only.ensures c.in_ok-end.ensures
