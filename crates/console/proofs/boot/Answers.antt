use Rattle.std.proofs.Common.{◌≡◌, Ok, Err, length, ap, ◌∙◌}
use Rattle.answers.specs.Text.{at_front, text_of}
use Rattle.console.specs.Answering.{said, answer_buffer}
use Rattle.console.specs.Booting.{boot_outcome, boot_result}
use Rattle.console.specs.Outcomes.{done}
use Rattle.console.proofs.Lines.{first_each}
use Rattle.console.proofs.boot.Goals as goal

pub returns-in-Ok-clause-answers : goal.returns-in-Ok-clause-answers
unfolding said text_of
returns-in-Ok-clause-answers c =
    let sized = rw c.in_ok-out.ensures.ok_part at c.as_mut_array.ensures.cases in
    first_each c.args.line.now c.hold_off.result c.hold_off.ensures.said
    (λ s. Ok (c.in-Ok.silences, c.put.result) ≡ boot_result (length c.args.out.now) s)
    (rw (sized.long, c.in-Ok.is) (ap (λ n. Ok (c.in-Ok.silences, n)) c.put.ensures.end))

pub returns-in-Ok-clause-written : goal.returns-in-Ok-clause-written
unfolding said text_of
returns-in-Ok-clause-written c =
    let sized = rw c.in_ok-out.ensures.ok_part at c.as_mut_array.ensures.cases in
    first_each c.args.line.now c.hold_off.result c.hold_off.ensures.said
    (λ s. c.put.new.out ≡ answer_buffer c.args.out.now 1 (boot_outcome s))
    (rw (sized.long, c.in-Ok.is) (c.put.ensures.written ∙ ap (at_front (said 1 done)) sized.same))

pub returns-in-Err-clause-answers : goal.returns-in-Err-clause-answers
returns-in-Err-clause-answers c =
    let sized = rw c.in_ok-out.ensures.ok_part at c.as_mut_array.ensures.cases in
    first_each c.args.line.now c.hold_off.result c.hold_off.ensures.said
    (λ s. Err c.refuse.result ≡ boot_result (length c.args.out.now) s)
    (rw (sized.long, c.in-Err.is) (ap Err c.refuse.ensures.fault))

pub returns-in-Err-clause-written : goal.returns-in-Err-clause-written
returns-in-Err-clause-written c =
    let sized = rw c.in_ok-out.ensures.ok_part at c.as_mut_array.ensures.cases in
    first_each c.args.line.now c.hold_off.result c.hold_off.ensures.said
    (λ s. c.refuse.new.out ≡ answer_buffer c.args.out.now 1 (boot_outcome s))
    (rw (sized.long, c.in-Err.is) (c.refuse.ensures.written ∙ ap (at_front _) sized.same))
