use Rattle.std.proofs.Common.{◌≡◌}
use Rattle.bus.specs.Frames.{Driven, bits_frame}
use Rattle.bus.proofs.Bits.{left}
use Rattle.bus.proofs.sender.send_byte.Given as goal

abbrev pub invariant-loop : goal.invariant-loop
invariant-loop g l = (l.left ≡ left l.byte l.counter) × Driven g.B.Bus.drives l.initial.bus (bits_frame l.byte l.counter) l.bus
