use Rattle.std.proofs.Common.{◌<◌, length, sym, ap, ◌∙◌, arith, length-set, rules}
use Rattle.std.proofs.lemmas.List.FromFn.{fill_by_all}
use Rattle.std.proofs.lemmas.List.Edits.{fill_by_more}
use Rattle.std.proofs.lemmas.Result.{err_from_is_err_and}
use Rattle.part.specs.Shown.{shown}
use Rattle.rig.specs.Meaning.{get, hears, next}
use Rattle.reading.specs.Report.{registers}
use Rattle.reading.proofs.Calls.{get_done, get_refused, get_kept, get_same}
use Rattle.reading.proofs.gets.registers.Goals as goal

pub loop-number-init : goal.loop-number-init
loop-number-init g c = (search rules, search rules, λ h. absurd (omega arith), λ j h. absurd (omega arith))

pub returns-in_err-byte : goal.returns-in_err-byte
returns-in_err-byte g c =
    let m = g.R.Rig.meaning c.loop-number.rig in
    let low : c.loop-number.number < 70 = omega arith in
    let no = get_refused m c.args.address c.loop-number.number low _ c.in_err-byte.ensures.answers in
    let same = c.loop-number.invariant.1 in
    let e = err_from_is_err_and c.from_residual.result c.from_residual.ensures.1 in
    rw e.1
    (e.2 ∙ no.1, ap (λ x. hears x c.args.address) (sym same) ∙ no.0, c.in_err-byte.ensures.after ∙ get_same m c.args.address c.loop-number.number low ∙ ap (λ x. next x (get c.args.address 0)) same)

pub loop-number-preserved : goal.loop-number-preserved
loop-number-preserved g c =
    let m = g.R.Rig.meaning c.loop-number.rig in
    let low : c.loop-number.number < 70 = omega arith in
    let done = get_done m c.args.address c.loop-number.number low _ c.in_ok-byte.ensures.answers in
    let same = c.loop-number.invariant.1 in
    let lt : c.loop-number.number < length c.loop-number.byte-items = omega arith in (
      length-set c.loop-number.byte-items c.loop-number.number c.in_ok-byte.field-0 ∙ c.loop-number.invariant.0,
      c.in_ok-byte.ensures.after ∙ get_kept m c.args.address c.loop-number.number low done.0 ∙ same,
      λ _. ap (λ x. hears x c.args.address) (sym same) ∙ done.0,
      rw (done.1 ∙ ap (λ x. shown x.part c.loop-number.number) same) (fill_by_more (shown (g.R.Rig.meaning c.args.rig.now).part) c.loop-number.byte-items c.loop-number.number 0 lt c.loop-number.invariant.3),
    )

pub returns : goal.returns
unfolding registers
returns g c = (fill_by_all (shown (g.R.Rig.meaning c.args.rig.now).part) c.loop-number.byte-items 70 0 c.loop-number.invariant.0 (λ k h. c.loop-number.invariant.3 k (omega arith)), c.loop-number.invariant.2 (omega arith), c.loop-number.invariant.1)
