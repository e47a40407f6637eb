use Rattle.std.proofs.Common.{◌∙◌}
use Rattle.registers.specs.Rows.{mask_of}
use Rattle.registers.proofs.Tables.{table_at}
use Rattle.registers.proofs.table.writable.Goals as goal

-- the table is what the rows say of each register, which antt computes
pub returns : goal.returns
unfolding mask_of
returns c = c.entry.ensures ∙ table_at (λ r. r.mask) c.args.register
