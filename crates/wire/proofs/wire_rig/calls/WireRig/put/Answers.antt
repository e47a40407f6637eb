use Rattle.std.proofs.Common.{sym, ap, ◌∙◌, arith}
use Rattle.std.proofs.lemmas.Result.{err_from_is_err_and}
use Rattle.rig.specs.Meaning.{done, refused}
use Rattle.rig.specs.Refusals.{told}
use Rattle.wire.proofs.Calls.{said_ok, said_err, put_frames}
use Rattle.wire.proofs.wire_rig.calls.WireRig.put.Goals as goal

pub invariant_of-self : goal.invariant_of-self
invariant_of-self c =
    let m = put_frames c.args.self.now.receiver c.put-sent.new.bus c.args.address c.args.register c.args.byte c.put-sent.result c.args.self.now.rests (omega (arith, c.in_ok-check_register.ensures)) (omega (arith, c.in_ok-check_register.ensures)) c.put-sent.ensures.unsent c.put-sent.ensures.run in
    record { rests = m.rested; bytes = c.shows_bytes.ensures }

pub returns-in_err-acknowledged : goal.returns-in_err-acknowledged
returns-in_err-acknowledged c =
    let m = put_frames c.args.self.now.receiver c.put-sent.new.bus c.args.address c.args.register c.args.byte c.put-sent.result c.args.self.now.rests (omega (arith, c.in_ok-check_register.ensures)) (omega (arith, c.in_ok-check_register.ensures)) c.put-sent.ensures.unsent c.put-sent.ensures.run in
    let e = err_from_is_err_and c.from_residual-in_err-acknowledged.result c.from_residual-in_err-acknowledged.ensures.1 in
    record {
      answers = ap (told (λ _. done)) e.1 ∙ ap refused e.2 ∙ sym (said_err c.put-sent.result done _ c.in_err-acknowledged.ensures) ∙ m.answers;
      after = m.after;
    }

pub returns : goal.returns
returns c =
    let m = put_frames c.args.self.now.receiver c.put-sent.new.bus c.args.address c.args.register c.args.byte c.put-sent.result c.args.self.now.rests (omega (arith, c.in_ok-check_register.ensures)) (omega (arith, c.in_ok-check_register.ensures)) c.put-sent.ensures.unsent c.put-sent.ensures.run in
    record { answers = sym (said_ok c.put-sent.result done _ c.in_ok-acknowledged.ensures) ∙ m.answers; after = m.after }
