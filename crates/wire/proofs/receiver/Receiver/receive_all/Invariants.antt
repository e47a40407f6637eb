use Rattle.std.proofs.Common.{◌≡◌, drop}
use Rattle.wire.specs.Laws.{received_all}
use Rattle.wire.proofs.receiver.Receiver.receive_all.Given as goal

-- what is left, taken from here on, gives what all of it gives from the start
abbrev pub invariant-loop-pair : goal.invariant-loop-pair
invariant-loop-pair l = received_all l.self (drop l.pair-index l.levels) ≡ received_all l.initial.self l.levels
