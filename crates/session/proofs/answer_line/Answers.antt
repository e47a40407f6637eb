use Rattle.std.proofs.Common.{◌≡◌, ℕ, List, true, length, OnOk, subst, ◌∙◌, rules}
use Rattle.std.proofs.lemmas.Bool.{cond-true, eq-eqb}
use Rattle.std.specs.Io.KnownBytes.{Appends}
use Rattle.console.specs.Answering.{line_outcome, next_line, fits}
use Rattle.session.proofs.Written.{front_said}
use Rattle.session.proofs.answer_line.Goals as goal

pub returns-clause-answers : goal.returns-clause-answers
returns-clause-answers g c =
    let before : List ℕ = c.args.buffer.now in
    let long : length c.args.buffer.now ≡ 544 = search rules in
    let fit : fits (length c.args.buffer.now) ≡ true = eq-eqb (length c.args.buffer.now) 544 long in
    let read = c.answer.ensures.reads fit in
    let s = read.0 in
    let n : ℕ = next_line c.args.console.now.line in
    let o = line_outcome (g.R.Rig.meaning c.args.console.now.rig) c.args.console.now.address s in
    let front = front_said n o before c.answer.new.out c.answer.result c.unwrap_or_else-length.result long (c.answer.ensures.answers s read.1) (c.answer.ensures.written s read.1) c.unwrap_or_else-length.ensures in
    (s, read.1, c.answer.ensures.after s read.1 ∙ cond-true _ _ _ fit, subst (λ t. OnOk c.write_all.result (Appends (g.W.Write.contents c.args.out.now) (g.W.Write.contents c.write_all.new.self) t)) front c.write_all.ensures.bytes)
