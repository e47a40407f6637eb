use Rattle.std.proofs.Common.{◌≡◌, length, ◌∙◌}
use Rattle.answers.specs.Text.{at_front}
use Rattle.console.specs.Answering.{line_outcome, result_of, said, next_line, answer_result, answer_left, answer_buffer}
use Rattle.console.proofs.Lines.{reads_each}
use Rattle.console.proofs.Console.answer.Goals as goal

pub returns-clause-answers : goal.returns-clause-answers
returns-clause-answers g c =
    let sized = rw c.in_ok-out.ensures.ok_part at c.as_mut_array.ensures.cases in
    let line = c.next_line-self.ensures in
    reads_each c.args.line.now c.command.result c.command.ensures
    (λ s. c.say.result ≡ answer_result (length c.args.out.now) (next_line c.args.self.now.line) (line_outcome (g.R.Rig.meaning c.args.self.now.rig) c.args.self.now.address s))
    (rw sized.long (c.say.ensures.answers ∙ (λ i. result_of (line i) (c.obey_line-reply.ensures.answers i))))

pub returns-clause-after : goal.returns-clause-after
returns-clause-after g c =
    let sized = rw c.in_ok-out.ensures.ok_part at c.as_mut_array.ensures.cases in
    reads_each c.args.line.now c.command.result c.command.ensures
    (λ s. g.R.Rig.meaning c.obey_line-reply.new.rig ≡ answer_left (length c.args.out.now) (g.R.Rig.meaning c.args.self.now.rig) c.args.self.now.address s)
    (rw sized.long c.obey_line-reply.ensures.after)

pub returns-clause-written : goal.returns-clause-written
returns-clause-written g c =
    let sized = rw c.in_ok-out.ensures.ok_part at c.as_mut_array.ensures.cases in
    let line = c.next_line-self.ensures in
    reads_each c.args.line.now c.command.result c.command.ensures
    (λ s. c.say.new.out ≡ answer_buffer c.args.out.now (next_line c.args.self.now.line) (line_outcome (g.R.Rig.meaning c.args.self.now.rig) c.args.self.now.address s))
    (rw sized.long (c.say.ensures.written ∙ (λ i. at_front (said (line i) (c.obey_line-reply.ensures.answers i)) (sized.same i))))

pub returns-clause-counted : goal.returns-clause-counted
returns-clause-counted g c =
    let sized = rw c.in_ok-out.ensures.ok_part at c.as_mut_array.ensures.cases in
    rw sized.long (c.next_line-self.ensures)
