use Rattle.std.proofs.Common.{get_or, sym, ap, ◌∙◌, arith, rules}
use Rattle.std.proofs.lemmas.Result.{err_from_is_err_and}
use Rattle.rig.specs.Meaning.{byte, refused}
use Rattle.rig.specs.Refusals.{told}
use Rattle.wire.proofs.Calls.{said_ok, said_err, get_frames}
use Rattle.wire.proofs.wire_rig.calls.WireRig.get.Goals as goal

pub invariant_of-self : goal.invariant_of-self
invariant_of-self c =
    let m = get_frames c.args.self.now.receiver c.read-sent.new.bus c.args.address c.args.register c.read-sent.new.into c.read-sent.result c.args.self.now.rests (omega (arith, c.in_ok-check_register.ensures)) (search rules) c.read-sent.ensures.bytes c.read-sent.ensures.unsent c.read-sent.ensures.run in
    record { rests = m.rested; bytes = c.shows_bytes.ensures }

pub returns-in_err-acknowledged : goal.returns-in_err-acknowledged
returns-in_err-acknowledged c =
    let m = get_frames c.args.self.now.receiver c.read-sent.new.bus c.args.address c.args.register c.read-sent.new.into c.read-sent.result c.args.self.now.rests (omega (arith, c.in_ok-check_register.ensures)) (search rules) c.read-sent.ensures.bytes c.read-sent.ensures.unsent c.read-sent.ensures.run in
    let e = err_from_is_err_and c.from_residual-in_err-acknowledged.result c.from_residual-in_err-acknowledged.ensures.1 in
    record {
      answers = ap (told byte) e.1 ∙ ap refused e.2 ∙ sym (said_err c.read-sent.result (byte (get_or c.read-sent.new.into 0 0)) _ c.in_err-acknowledged.ensures) ∙ m.answers;
      after = m.after;
    }

pub returns : goal.returns
returns c =
    let m = get_frames c.args.self.now.receiver c.read-sent.new.bus c.args.address c.args.register c.read-sent.new.into c.read-sent.result c.args.self.now.rests (omega (arith, c.in_ok-check_register.ensures)) (search rules) c.read-sent.ensures.bytes c.read-sent.ensures.unsent c.read-sent.ensures.run in
    record { answers = sym (said_ok c.read-sent.result (byte (get_or c.read-sent.new.into 0 0)) _ c.in_ok-acknowledged.ensures) ∙ m.answers; after = m.after }
