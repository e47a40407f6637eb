use Rattle.std.proofs.Common.{◌≡◌, ℕ, ◌<◌, get_or}
use Rattle.samples.specs.History.{content, byte_at}
use Rattle.samples.proofs.ring.Ring.read_out.Given as goal

abbrev pub invariant-loop-k : goal.invariant-loop-k
invariant-loop-k l = (j : ℕ) → j < l.k → get_or l.out j 0 ≡ byte_at l.resolution (content l.self) j
