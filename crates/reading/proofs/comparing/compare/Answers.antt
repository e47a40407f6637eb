use Rattle.std.proofs.Common.{◌≡◌, ℕ, true, false, List, length, Decides, sym, refl, ◌∙◌}
use Rattle.std.proofs.lemmas.Result.{err_from_is_err_and}
use Rattle.rig.specs.Meaning.{Meaning, hears}
use Rattle.reading.specs.Report.{report}
use Rattle.reading.proofs.Compares.{both_fit, read_done, read_refused, left_fits, right_fits, fault_is, left_next_is, right_next_is, left_report_is, left_read_is, both_is, right_buffer_is, right_read_is, both_law, tells_law}
use Rattle.reading.proofs.comparing.compare.Goals as goal

pub returns-in_err-read : goal.returns-in_err-read
returns-in_err-read g c =
    let m : Meaning = g.L.Rig.meaning c.args.left.now in
    let n : Meaning = g.R.Rig.meaning c.args.right.now in
    let a : ℕ = c.args.left_address in
    let b : ℕ = c.args.right_address in
    let lb : List ℕ = c.args.left_report.now in
    let rb : List ℕ = c.args.right_report.now in
    let ls = rw c.in_ok-left_report.ensures.ok_part at c.as_mut_array.ensures.cases in
    let rs = rw c.in_ok-right_report.ensures.ok_part at c.as_mut_array-2.ensures.cases in
    let fit = both_fit (length lb) (length rb) ls.long rs.long in
    let one = rw ls.same at c.in_err-read.ensures in
    let no = read_refused m a (length lb) (left_fits m a lb n b rb fit) _ one.answers in
    let e = err_from_is_err_and c.from_residual-in_err-read.result c.from_residual-in_err-read.ensures.1 in
    let none = both_is m a lb n b rb fit false no.0 (hears n b) refl in
    rw e.1
    record {
      finishes = both_law m a (length lb) n b (length rb) false (sym none);
      tells = tt;
      answers = e.2 ∙ no.1 ∙ sym (fault_is m a lb n b rb fit);
      finished = sym none;
      left_after = one.after ∙ sym (left_next_is m a lb n b rb fit);
      right_after = sym (right_next_is m a lb n b rb fit false no.0);
      left_written = one.written ∙ left_read_is m a lb n b rb fit false no.0;
      right_written = rs.same ∙ sym (right_buffer_is m a lb n b rb fit false no.0 (hears n b) refl);
    }

pub returns-in_err-read-2 : goal.returns-in_err-read-2
returns-in_err-read-2 g c =
    let m : Meaning = g.L.Rig.meaning c.args.left.now in
    let n : Meaning = g.R.Rig.meaning c.args.right.now in
    let a : ℕ = c.args.left_address in
    let b : ℕ = c.args.right_address in
    let lb : List ℕ = c.args.left_report.now in
    let rb : List ℕ = c.args.right_report.now in
    let ls = rw c.in_ok-left_report.ensures.ok_part at c.as_mut_array.ensures.cases in
    let rs = rw c.in_ok-right_report.ensures.ok_part at c.as_mut_array-2.ensures.cases in
    let fit = both_fit (length lb) (length rb) ls.long rs.long in
    let one = rw ls.same at c.in_ok-read.ensures in
    let two = rw rs.same at c.in_err-read-2.ensures in
    let on = read_done m a (length lb) (left_fits m a lb n b rb fit) one.answers in
    let no = read_refused n b (length rb) (right_fits m a lb n b rb fit) _ two.answers in
    let e = err_from_is_err_and c.from_residual-in_err-read-2.result c.from_residual-in_err-read-2.ensures.1 in
    let none = both_is m a lb n b rb fit true on false no.0 in
    rw e.1
    record {
      finishes = both_law m a (length lb) n b (length rb) false (sym none);
      tells = tt;
      answers = e.2 ∙ no.1 ∙ sym (fault_is m a lb n b rb fit);
      finished = sym none;
      left_after = one.after ∙ sym (left_next_is m a lb n b rb fit);
      right_after = two.after ∙ sym (right_next_is m a lb n b rb fit true on);
      left_written = one.written ∙ left_read_is m a lb n b rb fit true on;
      right_written = two.written ∙ right_read_is m a lb n b rb fit true on false no.0 ∙ sym (right_buffer_is m a lb n b rb fit true on false no.0);
    }

pub returns : goal.returns
returns g c =
    let m : Meaning = g.L.Rig.meaning c.args.left.now in
    let n : Meaning = g.R.Rig.meaning c.args.right.now in
    let a : ℕ = c.args.left_address in
    let b : ℕ = c.args.right_address in
    let lb : List ℕ = c.args.left_report.now in
    let rb : List ℕ = c.args.right_report.now in
    let ls = rw c.in_ok-left_report.ensures.ok_part at c.as_mut_array.ensures.cases in
    let rs = rw c.in_ok-right_report.ensures.ok_part at c.as_mut_array-2.ensures.cases in
    let fit = both_fit (length lb) (length rb) ls.long rs.long in
    let one = rw ls.same at c.in_ok-read.ensures in
    let two = rw rs.same at c.in_ok-read-2.ensures in
    let on = read_done m a (length lb) (left_fits m a lb n b rb fit) one.answers in
    let too = read_done n b (length rb) (right_fits m a lb n b rb fit) two.answers in
    let both = both_is m a lb n b rb fit true on true too in
    let left_is = one.written ∙ left_report_is m a lb n b rb fit true on in
    let right_is = two.written ∙ right_read_is m a lb n b rb fit true on true too in
    let tells_same : Decides c.same.result (report (g.L.Rig.meaning c.args.left.now).part ≡ report (g.R.Rig.meaning c.args.right.now).part) =
    (λ t. sym left_is ∙ c.same.ensures.0 t ∙ right_is, λ e. c.same.ensures.1 (left_is ∙ e ∙ sym right_is)) in
    record {
      finishes = both_law m a (length lb) n b (length rb) true (sym both);
      tells = tells_law m n c.same.result tells_same;
      answers = tells_same;
      finished = sym both;
      left_after = one.after ∙ sym (left_next_is m a lb n b rb fit);
      right_after = two.after ∙ sym (right_next_is m a lb n b rb fit true on);
      left_written = one.written ∙ left_read_is m a lb n b rb fit true on;
      right_written = right_is ∙ sym (right_buffer_is m a lb n b rb fit true on true too);
    }
