use Rattle.std.proofs.Common.{◌≡◌, ℕ, List}
use Rattle.rig.specs.Meaning.{Call, Answer}
use Rattle.rig.specs.Tries.{Makes}
use Rattle.rig.proofs.Waits.{Kept}
use Rattle.rig.proofs.patience.Patience.again.Given as goal

abbrev pub invariant-loop : goal.invariant-loop
invariant-loop g l = record {
  patience : l.self.patience ≡ l.initial.self.patience;
  kept :
      (c : Call) (good : _ → List ℕ → Answer) → Makes g.R.Rig.meaning (goal.F-post g l.call) l.initial.out c good
      → Kept (g.R.Rig.meaning l.initial.self.below) c l.counter l.initial.out (g.R.Rig.meaning l.self.below) l.out;
}
