use Rattle.std.proofs.Common.{◌≡◌, drop, replicate}
use Rattle.samples.specs.History.{content, values}
use Rattle.samples.proofs.Rings.{pushes}
use Rattle.samples.proofs.ring.Ring.recorded.Given as goal

-- what is left, stored on the ring as it is, gives what all of it gives on a new ring
abbrev pub invariant-loop-sample : goal.invariant-loop-sample
invariant-loop-sample l = pushes (content l.ring) (values (drop l.sample-index l.samples)) ≡ pushes (replicate 50 0) (values l.samples)
