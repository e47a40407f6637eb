use Rattle.std.proofs.Common.{◌≡◌, true, false, cond, length, sym, ap, ◌∙◌, rules}
use Rattle.std.proofs.lemmas.Result.{err_from_is_err_and}
use Rattle.samples.specs.History.{readout}
use Rattle.registers.specs.Questions.{resolution}
use Rattle.part.specs.Model.{model, monitor}
use Rattle.part.specs.Events.{step, block as stop}
use Rattle.rig.specs.Direct.{direct_meaning}
use Rattle.rig.specs.Meaning.{Meaning, sized, ring_base, ring_at, refused, bytes, block_of}
use Rattle.rig.specs.Refusals.{told}
use Rattle.rig.proofs.Bus.{unheard, heard, block_accepted, block_answered, block_left}
use Rattle.rig.proofs.direct.DirectRig.block.Goals as goal

pub returns-in_err-signal : goal.returns-in_err-signal
returns-in_err-signal c =
    let m = direct_meaning c.args.self.now in
    let no = c.in_err-signal.ensures m c.args.address in
    let e = err_from_is_err_and c.from_residual.result c.from_residual.ensures.1 in
    record {
      answers = ap (told (λ _. bytes c.args.out.now)) e.1 ∙ ap refused e.2 ∙ sym no.answers;
      after = sym no.after;
      filled = sym (ap (λ x. cond x (block_of m.part c.args.base (length c.args.out.now)) c.args.out.now) no.not_accepted);
    }

pub returns-in_err-acknowledge : goal.returns-in_err-acknowledge
returns-in_err-acknowledge c =
    let m = direct_meaning c.args.self.now in
    let n = direct_meaning c.acknowledge.new.self in
    let k = length c.args.out.now in
    let fits : sized (length c.args.out.now) ≡ true = search rules in
    let ring : ring_base c.args.base ≡ true = search rules in
    let no = unheard m c.args.address _ c.in_err-acknowledge.ensures.answers in
    let e = err_from_is_err_and c.from_residual-in_err-acknowledge.result c.from_residual-in_err-acknowledge.ensures.1 in
    record {
      answers = ap (told (λ _. bytes c.args.out.now)) e.1 ∙ ap refused (e.2 ∙ no.1) ∙ sym (block_answered m n c.args.address c.args.base k fits ring false no.0);
      after = block_left m n c.args.address c.args.base k fits ring false no.0 c.acknowledge.ensures.part c.acknowledge.ensures.owed;
      filled = sym (ap (λ x. cond x (block_of m.part c.args.base k) c.args.out.now) (block_accepted m n c.args.address c.args.base k fits ring false no.0));
    }

pub returns : goal.returns
returns c =
    let m = direct_meaning c.args.self.now in
    let k = length c.args.out.now in
    let fits : sized (length c.args.out.now) ≡ true = search rules in
    let ring : ring_base c.args.base ≡ true = search rules in
    let signal : c.in_ok-signal.signal ≡ ring_at c.args.base = search rules in
    let on = heard m c.args.address c.in_ok-acknowledge.ensures.answers in
    let n : Meaning = record { part = model c.block.new.self; owed = c.acknowledge.new.self.owed } in
    let read : c.block.new.out ≡ block_of m.part c.args.base (length c.args.out.now) =
    c.block.ensures.bytes
    ∙ ap (λ p. readout (resolution p.settings c.in_ok-signal.signal) (monitor c.in_ok-signal.signal p).ring (length c.args.out.now)) c.acknowledge.ensures.part
    ∙ ap (λ s. readout (resolution m.part.settings s) (monitor s m.part).ring (length c.args.out.now)) signal in
    let stopped : n.part ≡ step m.part (stop (ring_at c.args.base)) =
    c.block.ensures.after ∙ ap (λ p. step p (stop c.in_ok-signal.signal)) c.acknowledge.ensures.part ∙ ap (λ s. step m.part (stop s)) signal in
    record {
      answers = ap bytes read ∙ sym (block_answered m n c.args.address c.args.base k fits ring true on);
      after = block_left m n c.args.address c.args.base k fits ring true on stopped c.acknowledge.ensures.owed;
      filled = read ∙ sym (ap (λ x. cond x (block_of m.part c.args.base k) c.args.out.now) (block_accepted m n c.args.address c.args.base k fits ring true on));
    }
