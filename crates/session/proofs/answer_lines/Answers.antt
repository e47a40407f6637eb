use Rattle.std.proofs.Common.{ℕ, List, ap, sym, subst, ◌∙◌}
use Rattle.console.specs.Answering.{Reads}
use Rattle.session.proofs.SoFar.{SoFar, nothing_yet, one_more, all_answered}
use Rattle.session.proofs.answer_lines.Goals as goal

pub loop-line-init : goal.loop-line-init
loop-line-init g c =
    let m = g.R.Rig.meaning c.args.console.now.rig in
    let old = g.W.Write.contents c.args.out.now in
    let text : List ℕ = c.args.script.now in
    let all = ap (λ lines. lines.rest.now) c.into_iter-line-iterator.ensures.into_iter_gives ∙ c.new-line-items.ensures in
    subst (λ (rest : List ℕ). SoFar m c.args.console.now.address c.args.console.now.line text old m c.args.console.now.address c.args.console.now.line rest old) (sym all)
    (nothing_yet m c.args.console.now.address c.args.console.now.line text old)

pub loop-line-preserved : goal.loop-line-preserved
loop-line-preserved g c =
    let step = c.in-Some.ensures.steps in
    let answer = c.in_ok-answer_line.ensures in
    let s = answer.answers.0 in
    one_more c.loop-line.invariant s step.0 (subst (λ t. Reads t s) step.1 answer.answers.1) _ _ _ _ _ answer.answers.2 answer.address answer.counted step.2 answer.answers.3

pub returns : goal.returns
returns g c = all_answered c.loop-line.invariant c.in-None.ensures.steps.0
