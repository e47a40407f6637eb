use Rattle.std.proofs.Common.{◌^◌, ◌<◌}
use Rattle.bus.specs.Frames.{Driven, taken_bits}
use Rattle.bus.proofs.sender.read_byte.Given as goal

abbrev pub invariant-loop : goal.invariant-loop
invariant-loop g l = (l.byte < 2 ^ l.counter) × Driven g.B.Bus.drives l.initial.bus (taken_bits l.byte l.counter) l.bus
