-- What a reading says of the history, from what it answers and leaves.
use Rattle.std.proofs.Common.{◌≡◌, ℕ, zero, suc, ◌≤◌, Bool, true, false, cond, ◌&&◌, eqb, List, [], ◌∷◌, ◌++◌, length, is_ok, IfOk, Ok, Err, Decides, Result, sym, refl, ap, ◌∙◌, arith, lit<, lit≤}
use mathlib.Core.Path.{subst⁻¹}
use Rattle.std.proofs.lemmas.Bool.{eqb-true, eq-eqb, and_parts, and_from}
use Rattle.samples.specs.declared.signal.Signal.{Signal}
use Rattle.samples.specs.declared.signal.Signal.TheVariants.{Current, Voltage}
use Rattle.registers.specs.Questions.{resolution}
use Rattle.part.specs.Model.{Model, address}
use Rattle.part.specs.Shown.{shown}
use Rattle.part.specs.Events.{step, block as read_out}
use Rattle.rig.specs.declared.Refusal.TheVariants.{Silence}
use Rattle.rig.specs.Meaning.{Meaning, Call, get, hears, next}
use Rattle.history.specs.Histories.{History, since, reached, and_then}
use Rattle.history.proofs.Points.{has_points}
use Rattle.reading.specs.declared.ReadingFault.{ReadingFault}
use Rattle.reading.specs.declared.ReadingFault.TheVariants.{Size, Refused}
use Rattle.reading.specs.Report.{registers, ring_told, words, report}
use Rattle.reading.specs.Reading.{sized, finishes, ring_read, read_next, read_buffer}
use Rattle.reading.specs.Laws.{Ready, Finishes, Shows, ShowsPoints, Tells, gets, ring_block, tried, GoesOn}
use Rattle.reading.proofs.Calls.{get_kept, part_kept}
use Rattle.reading.proofs.Readouts.{ring_next}
use Rattle.reading.proofs.Finished.{still_hears, still_told, Read}
use Rattle.reading.proofs.Shows.{shows}
use Rattle.reading.proofs.Tells.{tells}

-- ---- when it finishes

abbrev pub by_tests : Bool → Bool → Result (Unit {0}) ReadingFault
by_tests t u = cond t (cond u (Ok tt) (Err (Refused Silence))) (Err Size)

ok_is : (t u : Bool) → is_ok (by_tests t u) ≡ (t && u)
ok_is true true = refl
ok_is true false = refl
ok_is false u = refl

pub ready_is : (h : History) (m : Meaning) → m ≡ reached h → (a size : ℕ) → Decides (finishes m a size) (Ready h a size)
ready_is h m e a size =
    let p = has_points h m e in (
      λ t.
          let both = and_parts (sized size) (hears m a) t in
          let on = and_parts (eqb a (address m.part)) (eqb m.owed 0) both.1 in
          let none : m.owed ≡ 0 = eqb-true m.owed 0 on.1 in
          let owed = p.owed in
          record {
            fits = eqb-true size 270 both.0;
            here = eqb-true a (address m.part) on.0 ∙ p.address_is;
            answers = omega arith;
          },
      λ r.
          let owed = p.owed in
          let few = r.answers in
          and_from (sized size) (hears m a) (eq-eqb size 270 r.fits)
          (and_from (eqb a (address m.part)) (eqb m.owed 0) (eq-eqb a (address m.part) (r.here ∙ sym p.address_is)) (eq-eqb m.owed 0 (omega arith))),
    )

-- ---- what it adds

since_append : (m : Meaning) (xs ys : List Call) → since m (xs ++ ys) ≡ since (since m ys) xs
since_append m [] ys = refl
since_append m (x ∷ xs) ys = ap (λ n. next n x) (since_append m xs ys)

reached_then : (h : History) (more : List Call) → reached (and_then h more) ≡ since (reached h) more
unfolding reached
reached_then h more = since_append _ more h.calls

module _ (m : Meaning) (a : ℕ) where
  gets_kept : hears m a ≡ true → (n : ℕ) → n ≤ 70 → since m (gets a n) ≡ m
  gets_kept on zero l = refl
  gets_kept on (suc n) l = ap (λ x. next x (get a n)) (gets_kept on n (omega arith)) ∙ get_kept m a n (omega arith) on

  finished_calls : hears m a ≡ true → since m (ring_block m a Current ∷ ring_block m a Voltage ∷ gets a 70) ≡ ring_read (ring_read m Voltage) Current
  finished_calls on =
      ap (λ x. next (next x (ring_block m a Voltage)) (ring_block m a Current)) (gets_kept on 70 (lit≤ tt))
      ∙ ap (λ x. next x (ring_block m a Current)) (ring_next m a Voltage on (resolution m.part.settings Voltage))
      ∙ ring_next (ring_read m Voltage) a Current (still_hears m a Voltage on) (resolution m.part.settings Current)

  tried_is : (size : ℕ) → read_next m a size ≡ since m (tried m a size)
  tried_is size = by (sized size) (hears m a) refl
    where
      by : (t u : Bool) → hears m a ≡ u → cond t (cond u (ring_read (ring_read m Voltage) Current) (next m (get a 0))) m ≡ since m (cond t (cond u (ring_block m a Current ∷ ring_block m a Voltage ∷ gets a 70) (get a 0 ∷ [])) [])
      by true true on = sym (finished_calls on)
      by true false on = refl
      by false u on = refl

-- a look leaves the report
looked_shown : (p : Model) (s : Signal) → registers (step p (read_out s)) ≡ registers p
unfolding registers shown step
looked_shown p s = refl

looked : (p : Model) (s : Signal) → report (step p (read_out s)) ≡ report p
unfolding report
looked p s =
    ap (λ x. x ++ (words (ring_told (step p (read_out s)) Voltage) ++ words (ring_told (step p (read_out s)) Current))) (looked_shown p s)
    ∙ ap (λ x. registers p ++ (words x ++ words (ring_told (step p (read_out s)) Current))) (still_told p s Voltage)
    ∙ ap (λ x. registers p ++ (words (ring_told p Voltage) ++ words x)) (still_told p s Current)

report_kept : (m : Meaning) (a size : ℕ) → report (read_next m a size).part ≡ report m.part
report_kept m a size = by (sized size) (hears m a)
  where
    by : (t u : Bool) → report (cond t (cond u (ring_read (ring_read m Voltage) Current) (next m (get a 0))) m).part ≡ report m.part
    by true true = looked (ring_read m Voltage).part Current ∙ looked m.part Voltage
    by true false = ap report (part_kept m a 0 (lit< tt))
    by false u = refl

pub goes_on : (m : Meaning) (a size : ℕ) (n : Meaning) → n ≡ read_next m a size → GoesOn m a size n
goes_on m a size n is h e =
    let then : n ≡ reached (and_then h (tried m a size)) = is ∙ tried_is m a size ∙ ap (λ x. since x (tried m a size)) e ∙ sym (reached_then h (tried m a size)) in
    record {
      now = then;
      kept = (tells h (and_then h (tried m a size)) m (report m.part) e refl).apart (sym (report_kept m a size) ∙ ap (λ x. report x.part) (sym is ∙ then));
    }

-- ---- all of it

-- the buffer of a finished reading is the report
buffer_is : (m : Meaning) (a : ℕ) (before : List ℕ) → finishes m a (length before) ≡ true → read_buffer m a before ≡ report m.part
buffer_is m a before t = ap (λ x. cond x (report m.part) before) t

module _ (m : Meaning) (a : ℕ) (before : List ℕ) (r : Result (Unit {0}) ReadingFault) (n : Meaning) (after : List ℕ) (read : Read m a before r n after) where
  finished_is : is_ok r ≡ finishes m a (length before)
  finished_is = ap is_ok read.answers ∙ ok_is (sized (length before)) (hears m a)

  if_made : (P : Type 0) → (is_ok r ≡ true → P) → IfOk r (λ _. P)
  if_made P f = by r f
    where
      by : (r : Result (Unit {0}) ReadingFault) → (is_ok r ≡ true → P) → IfOk r (λ _. P)
      by (Ok x) f = f refl
      by (Err e) f = tt

  is_report : is_ok r ≡ true → after ≡ report m.part
  is_report ok = read.written ∙ buffer_is m a before (sym finished_is ∙ ok)

  pub law_finishes : Finishes m a (length before) (is_ok r)
  law_finishes h e =
      let d = ready_is h m e a (length before) in
      (λ t. d.0 (sym finished_is ∙ t), λ y. finished_is ∙ d.1 y)

  pub law_shows : IfOk r (λ _. ShowsPoints m after)
  law_shows = if_made (ShowsPoints m after) (λ ok h e. subst⁻¹ (λ (x : List ℕ). Shows h x) (is_report ok) (shows h m (has_points h m e)))

  pub law_tells : IfOk r (λ _. Tells m after)
  law_tells = if_made (Tells m after) (λ ok h k e. tells h k m after e (is_report ok))

  pub law_goes_on : GoesOn m a (length before) n
  law_goes_on = goes_on m a (length before) n read.left
