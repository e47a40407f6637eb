use Rattle.std.proofs.Common.{◌≡◌, ℕ, List, Ok, Err, ap, ◌∙◌}
use Rattle.std.proofs.lemmas.Result.{err_from_is_err_and}
use Rattle.rig.specs.Meaning.{Meaning}
use Rattle.reading.specs.declared.ReadingFault.TheVariants.{Size, Refused}
use Rattle.reading.proofs.Finished.{Read, finished, unanswered, unfit}
use Rattle.reading.proofs.Laws.{law_finishes, law_shows, law_tells, law_goes_on}
use Rattle.reading.proofs.read.Goals as goal

pub returns-in_err-report : goal.returns-in_err-report
returns-in_err-report g c =
    let m : Meaning = g.R.Rig.meaning c.args.rig.now in
    let a : ℕ = c.args.address in
    let before : List ℕ = c.args.report.now in
    let none = c.in_err-report.ensures.ok_part in
    let said = rw none at c.in_err-report.ensures.value in
    let fault : c.in_err-report.field-0.0 ≡ Size = cc in
    let e = err_from_is_err_and c.from_residual.result c.from_residual.ensures.1 in
    let other = unfit m a before (rw none at c.as_mut_array.ensures.cases) in
    let read : Read (g.R.Rig.meaning c.args.rig.now) c.args.address c.args.report.now c.from_residual.result (g.R.Rig.meaning c.args.rig.now) c.args.report.now =
    record { answers = e.1 ∙ ap Err (e.2 ∙ fault) ∙ other.answers; left = other.left; written = other.written } in
    record {
      answers = read.answers;
      after = read.left;
      written = read.written;
      finishes = law_finishes m a before c.from_residual.result m before read;
      shows = law_shows m a before c.from_residual.result m before read;
      tells = law_tells m a before c.from_residual.result m before read;
      goes_on = law_goes_on m a before c.from_residual.result m before read;
    }

pub returns-in_err-parts : goal.returns-in_err-parts
returns-in_err-parts g c =
    let m : Meaning = g.R.Rig.meaning c.args.rig.now in
    let a : ℕ = c.args.address in
    let before : List ℕ = c.args.report.now in
    let after : List ℕ = c.in_ok-report.report.now in
    let n : Meaning = g.R.Rig.meaning c.read.new.rig in
    let sized = rw c.in_ok-report.ensures.ok_part at c.as_mut_array.ensures.cases in
    let no = c.in_err-parts.ensures in
    let e = err_from_is_err_and c.from_residual-in_err-parts.result c.from_residual-in_err-parts.ensures.1 in
    let silent = unanswered m a before n sized.long no.1 no.2 in
    let read : Read (g.R.Rig.meaning c.args.rig.now) c.args.address c.args.report.now c.from_residual-in_err-parts.result (g.R.Rig.meaning c.read.new.rig) c.in_ok-report.report.now =
    record { answers = e.1 ∙ ap Err (e.2 ∙ ap Refused no.0) ∙ silent.answers; left = silent.left; written = sized.same ∙ silent.written } in
    record {
      answers = read.answers;
      after = read.left;
      written = read.written;
      finishes = law_finishes m a before c.from_residual-in_err-parts.result n after read;
      shows = law_shows m a before c.from_residual-in_err-parts.result n after read;
      tells = law_tells m a before c.from_residual-in_err-parts.result n after read;
      goes_on = law_goes_on m a before c.from_residual-in_err-parts.result n after read;
    }

pub returns : goal.returns
returns g c =
    let m : Meaning = g.R.Rig.meaning c.args.rig.now in
    let a : ℕ = c.args.address in
    let before : List ℕ = c.args.report.now in
    let n : Meaning = g.R.Rig.meaning c.read.new.rig in
    let sized = rw c.in_ok-report.ensures.ok_part at c.as_mut_array.ensures.cases in
    let parts = c.in_ok-parts.ensures in
    let read = finished m a before n sized.long c.write.new.report parts.3 parts.4 c.in_ok-parts.parts.registers c.in_ok-parts.parts.voltage c.in_ok-parts.parts.current parts.0 parts.1 parts.2 c.write.ensures in
    record {
      answers = read.answers;
      after = read.left;
      written = read.written;
      finishes = law_finishes m a before (Ok tt) n c.write.new.report read;
      shows = law_shows m a before (Ok tt) n c.write.new.report read;
      tells = law_tells m a before (Ok tt) n c.write.new.report read;
      goes_on = law_goes_on m a before (Ok tt) n c.write.new.report read;
    }
