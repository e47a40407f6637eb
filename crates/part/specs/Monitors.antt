-- What the part keeps of one signal.
use Rattle.std.specs.Prelude.{ℕ, List, replicate}
use Rattle.samples.specs.History.{content}
use Rattle.part.specs.declared.monitor.Monitor.{Monitor}
use Rattle.part.specs.declared.monitor.RingState.{RingState}
use Rattle.part.specs.declared.monitor.RingState.TheVariants.{Running}

-- the ring is its fifty samples, the oldest first
pub record Monitored : Type 0 where
  pub latest : ℕ
  pub smallest : ℕ
  pub largest : ℕ
  pub ring : List ℕ
  pub state : RingState

abbrev pub monitored : Monitor → Monitored
monitored t = record { latest = t.latest.value; smallest = t.extremes.smallest.value; largest = t.extremes.largest.value; ring = content t.ring; state = t.state }

-- at power-up: no sample yet, reset extremes, a running ring of zeros
abbrev pub fresh : Monitored
fresh = record { latest = 0; smallest = 1023; largest = 0; ring = replicate 50 0; state = Running }
