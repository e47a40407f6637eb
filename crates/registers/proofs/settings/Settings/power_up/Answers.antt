use Rattle.registers.specs.Rows.{reset_of}
use Rattle.registers.proofs.Kept.{held_first}
use Rattle.registers.proofs.Tables.{filled_in, resets_within}
use Rattle.registers.proofs.settings.Settings.power_up.Goals as goal

pub invariant_of-result : goal.invariant_of-result
unfolding reset_of
invariant_of-result c =
    record { held = held_first c.args.pins.now _ (filled_in c.args.pins.now _ _ c.range_bits.ensures c.enable_bits.ensures) }

pub returns : goal.returns
unfolding reset_of
returns c = record {
  bytes = filled_in c.args.pins.now _ _ c.range_bits.ensures c.enable_bits.ensures;
  within = resets_within;
}
