use Rattle.std.proofs.Common.{◌≡◌, true, cond, length, sym, ap, ◌∙◌, rules}
use Rattle.std.proofs.lemmas.Result.{err_from_is_err_and}
use Rattle.rig.specs.Meaning.{bytes, refused, block, block_of, answer, next, sized, ring_base}
use Rattle.rig.specs.Refusals.{told}
use Rattle.wire.specs.Rests.{meaning_of}
use Rattle.wire.proofs.Calls.{said_ok, said_err, was_err, block_frames, filled_done, filled_refused}
use Rattle.wire.proofs.wire_rig.calls.WireRig.block.Goals as goal

pub invariant_of-self : goal.invariant_of-self
invariant_of-self c =
    let fits : sized (length c.read-sent.new.into) ≡ true = search rules in
    let ring : ring_base c.args.base ≡ true = search rules in
    let m = block_frames c.args.self.now.receiver c.read-sent.new.bus c.args.address c.args.base c.read-sent.new.into c.read-sent.result c.args.self.now.rests fits ring c.read-sent.ensures.bytes c.read-sent.ensures.unsent c.read-sent.ensures.run in
    record { rests = m.rested; bytes = c.shows_bytes.ensures }

pub returns-in_err-check_block : goal.returns-in_err-check_block
returns-in_err-check_block c =
    let m = meaning_of c.args.self.now.receiver in
    let no = c.in_err-check_block.ensures m c.args.address in
    let e = err_from_is_err_and c.from_residual.result c.from_residual.ensures.1 in
    record {
      answers = ap (told (λ _. bytes c.args.out.now)) e.1 ∙ ap refused e.2 ∙ sym no.answers;
      after = sym no.after;
      filled = sym (ap (λ x. cond x (block_of m.part c.args.base (length c.args.out.now)) c.args.out.now) no.not_accepted);
    }

pub returns-in_err-acknowledged : goal.returns-in_err-acknowledged
returns-in_err-acknowledged c =
    let fits : sized (length c.read-sent.new.into) ≡ true = search rules in
    let sized_out : sized (length c.args.out.now) ≡ true = search rules in
    let ring : ring_base c.args.base ≡ true = search rules in
    let same : c.read-sent.new.into ≡ c.args.out.now = c.read-sent.ensures.kept (was_err c.read-sent.result _ c.in_err-acknowledged.ensures) in
    let v = c.args.self.now.receiver in
    let m = block_frames c.args.self.now.receiver c.read-sent.new.bus c.args.address c.args.base c.read-sent.new.into c.read-sent.result c.args.self.now.rests fits ring c.read-sent.ensures.bytes c.read-sent.ensures.unsent c.read-sent.ensures.run in
    let e = err_from_is_err_and c.from_residual-in_err-acknowledged.result c.from_residual-in_err-acknowledged.ensures.1 in
    let silent : refused c.in_err-acknowledged.field-0.0 ≡ answer (meaning_of v) (block c.args.address c.args.base (length c.args.out.now)) =
    sym (said_err c.read-sent.result (bytes c.read-sent.new.into) _ c.in_err-acknowledged.ensures) ∙ m.answers ∙ ap (λ xs. answer (meaning_of v) (block c.args.address c.args.base (length xs))) same in
    record {
      answers = ap (told (λ _. bytes c.read-sent.new.into)) e.1 ∙ ap refused e.2 ∙ silent;
      after = m.after ∙ ap (λ xs. next (meaning_of v) (block c.args.address c.args.base (length xs))) same;
      filled = same ∙ filled_refused (meaning_of v) c.args.address c.args.base c.args.out.now sized_out ring _ silent;
    }

pub returns : goal.returns
returns c =
    let fits : sized (length c.read-sent.new.into) ≡ true = search rules in
    let sized_out : sized (length c.args.out.now) ≡ true = search rules in
    let ring : ring_base c.args.base ≡ true = search rules in
    let len : length c.read-sent.new.into ≡ length c.args.out.now = search rules in
    let v = c.args.self.now.receiver in
    let m = block_frames c.args.self.now.receiver c.read-sent.new.bus c.args.address c.args.base c.read-sent.new.into c.read-sent.result c.args.self.now.rests fits ring c.read-sent.ensures.bytes c.read-sent.ensures.unsent c.read-sent.ensures.run in
    let heard : bytes c.read-sent.new.into ≡ answer (meaning_of v) (block c.args.address c.args.base (length c.args.out.now)) =
    sym (said_ok c.read-sent.result (bytes c.read-sent.new.into) _ c.in_ok-acknowledged.ensures) ∙ m.answers ∙ ap (λ n. answer (meaning_of v) (block c.args.address c.args.base n)) len in
    record {
      answers = heard;
      after = m.after ∙ ap (λ n. next (meaning_of v) (block c.args.address c.args.base n)) len;
      filled = filled_done (meaning_of v) c.args.address c.args.base c.args.out.now sized_out ring c.read-sent.new.into heard;
    }
