use Rattle.script.proofs.Opening.{Begun}
use Rattle.script.proofs.first.number.Given as goal

abbrev pub invariant-loop-i : goal.invariant-loop-i
invariant-loop-i l = Begun l.digits l.i l.n
