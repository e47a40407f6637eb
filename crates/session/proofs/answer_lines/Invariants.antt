use Rattle.session.proofs.SoFar.{SoFar}
use Rattle.session.proofs.answer_lines.Given as goal

abbrev pub invariant-loop-line : goal.invariant-loop-line
invariant-loop-line g l =
    SoFar
    (g.R.Rig.meaning l.initial.console.rig) l.initial.console.address l.initial.console.line l.script (g.W.Write.contents l.initial.out)
    (g.R.Rig.meaning l.console.rig) l.console.address l.console.line l.line-iterator.rest.now (g.W.Write.contents l.out)
