use Rattle.std.proofs.Common.{[], ◌∷◌, ◌++◌}
use Rattle.bus.specs.Frames.{Driven, taken_bytes}
use Rattle.bus.proofs.sender.read_all.Given as goal

abbrev pub invariant-loop-place : goal.invariant-loop-place
invariant-loop-place g l = Driven g.B.Bus.drives l.initial.bus (taken_bytes (l.others ++ l.last ∷ []) l.place-index) l.bus
