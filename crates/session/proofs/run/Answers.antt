use Rattle.std.proofs.Common.{◌≡◌, ℕ, List, length, take, replicate, refl, sym, ap, ◌∙◌, subst, arith}
use Rattle.std.specs.Io.KnownBytes.{Appends}
use Rattle.answers.specs.Text.{text_of, refusal_text, at_front}
use Rattle.part.specs.Model.{powered}
use Rattle.rig.specs.Patience.{eased}
use Rattle.wire.specs.Wired.{wire_meaning}
use Rattle.console.specs.Booting.{FirstReads}
use Rattle.session.specs.Answered.{ReadAs, answers, at_start}
use Rattle.session.proofs.Written.{in_front}
use Rattle.session.proofs.Whole.{on_ok, too_long, lines_after, fit, good_first, first_front}
use Rattle.session.proofs.run.Goals as goal

pub returns-then-script-gt-LONGEST_SCRIPT-clause-answered : goal.returns-then-script-gt-LONGEST_SCRIPT-clause-answered
unfolding text_of
returns-then-script-gt-LONGEST_SCRIPT-clause-answered g c =
    let before : List ℕ = replicate 544 0 in
    let old = g.W.Write.contents c.args.out.now in
    let new = g.W.Write.contents c.write_all.new.self in
    let is = ap text_of c.too_long.ensures in
    let front = ap (λ after. take c.put-length.result after) (c.put-length.ensures.written ∙ ap (λ t. at_front t before) is) ∙ in_front (refusal_text 0 6) before c.put-length.result (c.put-length.ensures.end ∙ ap length is) in
    on_ok c.write_all.result
    (λ appends. (refusal_text 0 6, too_long c.args.script.now (omega arith), subst (Appends old new) front appends))
    c.write_all.ensures.bytes

pub returns-in_ok-write_all-in-Ok-clause-answered : goal.returns-in_ok-write_all-in-Ok-clause-answered
returns-in_ok-write_all-in-Ok-clause-answered g c =
    let before : List ℕ = replicate 544 0 in
    let long : length before ≡ 544 = refl in
    let old = g.W.Write.contents c.args.out.now in
    let mid = g.W.Write.contents c.write_all-in-Ok.new.self in
    let new = g.W.Write.contents c.answer_lines.new.out in
    let reads = c.boot.ensures.reads (fit before long) in
    let s = reads.0 in
    let good = good_first before long s (c.in-Ok.hold_off, c.in-Ok.length) (sym c.in-Ok.is ∙ c.boot.ensures.answers s reads.1) in
    let front = first_front before long s c.boot.new.out c.in-Ok.length (c.boot.ensures.written s reads.1) good.1 in
    let meant : eased (wire_meaning c.new-in-Ok.result.rig.below) c.new-in-Ok.result.rig.patience ≡ at_start c.in-Ok.hold_off =
    ap (λ r. eased (wire_meaning r.below) r.patience) c.new-in-Ok.ensures.rig
    ∙ c.new-rig.ensures.meaning
    ∙ ap (λ m. eased m 2) c.new.ensures.meaning
    ∙ ap (λ p. eased (record { part = powered p; owed = c.in-Ok.hold_off }) 2) c.payload_bay.ensures in
    on_ok c.answer_lines.result
    (λ all. lines_after c.args.script.now (omega arith) s (subst (λ t. FirstReads t s) c.first_line.ensures.line reads.1) old mid (subst (Appends old mid) front c.in_ok-write_all-in-Ok.ensures.bytes)
    c.in-Ok.hold_off good.0 new (all.0, subst (λ t. ReadAs t all.0) c.first_line.ensures.after all.1, subst (Appends mid new) (λ i. answers (meant i) (c.new-in-Ok.ensures.address i) (c.new-in-Ok.ensures.line i) all.0) all.2))
    c.answer_lines.ensures
