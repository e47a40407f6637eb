-- Two readings, one after the other, and what they say of two histories.
use Rattle.std.proofs.Common.{◌≡◌, ℕ, Bool, true, false, cond, ◌&&◌, List, length, Ok, Err, Decides, sym, refl, ap, ◌∙◌, ⊎_elim, arith}
use Rattle.std.proofs.lemmas.Bool.{cases_Bool, and_parts, and_from, eq-eqb}
use Rattle.rig.specs.declared.Refusal.TheVariants.{Silence}
use Rattle.rig.specs.Meaning.{Meaning, hears}
use Rattle.history.specs.Histories.{reached}
use Rattle.reading.specs.declared.ReadingFault.{ReadingFault}
use Rattle.reading.specs.declared.ReadingFault.TheVariants.{Size, Refused}
use Rattle.reading.specs.Report.{report}
use Rattle.reading.specs.Reading.{sized, read_result, read_next, read_buffer}
use Rattle.reading.specs.Compare.{both_sized, both_finish, compare_fault, first_next, second_next, first_buffer, second_buffer, BothFinish, TellsApart}
use Rattle.reading.proofs.Laws.{by_tests, ready_is}
use Rattle.reading.proofs.Tells.{tells}

-- ---- a reading into a buffer that fits, by its answer

module _ (m : Meaning) (a size : ℕ) (fit : sized size ≡ true) where
  pub read_done : Ok tt ≡ read_result m a size → hears m a ≡ true
  read_done is =
      ⊎_elim
      (λ t. t)
      (λ (f : hears m a ≡ false). absurd (let no : Ok tt ≡ by_tests true false = is ∙ ap (λ t. by_tests t (hears m a)) fit ∙ ap (by_tests true) f in let z : ◌≡◌ {A = ℕ} 0 1 = cc in omega arith))
      (cases_Bool (hears m a))

  pub read_refused : (e : ReadingFault) → Err e ≡ read_result m a size → (hears m a ≡ false) × (e ≡ Refused Silence)
  read_refused e is =
      ⊎_elim
      (λ (t : hears m a ≡ true). absurd (let no : Err e ≡ by_tests true true = is ∙ ap (λ x. by_tests x (hears m a)) fit ∙ ap (by_tests true) t in let z : ◌≡◌ {A = ℕ} 0 1 = cc in omega arith))
      (λ (f : hears m a ≡ false). (f, let same : Err e ≡ by_tests true false = is ∙ ap (λ x. by_tests x (hears m a)) fit ∙ ap (by_tests true) f in cc))
      (cases_Bool (hears m a))

-- ---- both buffers fit, and x and y say which parts listen

pub both_fit : (first second : ℕ) → first ≡ 270 → second ≡ 270 → both_sized first second ≡ true
both_fit first second e f = and_from (sized first) (sized second) (eq-eqb first 270 e) (eq-eqb second 270 f)

module _ (m : Meaning) (a : ℕ) (lb : List ℕ) (n : Meaning) (b : ℕ) (rb : List ℕ) (fit : both_sized (length lb) (length rb) ≡ true) where
  pub left_fits : sized (length lb) ≡ true
  left_fits = (and_parts (sized (length lb)) (sized (length rb)) fit).0

  pub right_fits : sized (length rb) ≡ true
  right_fits = (and_parts (sized (length lb)) (sized (length rb)) fit).1

  pub fault_is : compare_fault (length lb) (length rb) ≡ Refused Silence
  fault_is = ap (λ t. cond t (Refused Silence) Size) fit

  pub left_next_is : first_next m a (length lb) (length rb) ≡ read_next m a (length lb)
  left_next_is = ap (λ t. cond t (read_next m a (length lb)) m) fit

  module _ (x : Bool) (hx : hears m a ≡ x) where
    first_is : (both_sized (length lb) (length rb) && hears m a) ≡ x
    first_is = ap (λ t. t && hears m a) fit ∙ hx

    pub right_next_is : second_next m a (length lb) n b (length rb) ≡ cond x (read_next n b (length rb)) n
    right_next_is = ap (λ t. cond t (read_next n b (length rb)) n) first_is

    pub left_report_is : read_buffer m a lb ≡ cond x (report m.part) lb
    left_report_is = ap (λ t. cond (t && hears m a) (report m.part) lb) left_fits ∙ ap (λ t. cond t (report m.part) lb) hx

    pub left_read_is : read_buffer m a lb ≡ first_buffer m a lb (length rb)
    left_read_is = left_report_is ∙ sym (ap (λ t. cond t (report m.part) lb) first_is)

    module _ (y : Bool) (hy : hears n b ≡ y) where
      pub both_is : both_finish m a (length lb) n b (length rb) ≡ (x && y)
      both_is = ap (λ t. t && hears n b) first_is ∙ ap (λ t. x && t) hy

      pub right_buffer_is : second_buffer m a (length lb) n b rb ≡ cond (x && y) (report n.part) rb
      right_buffer_is = ap (λ t. cond t (report n.part) rb) both_is

      pub right_read_is : read_buffer n b rb ≡ cond y (report n.part) rb
      right_read_is = ap (λ t. cond (t && hears n b) (report n.part) rb) right_fits ∙ ap (λ t. cond t (report n.part) rb) hy

-- ---- what that says of histories

shuffle : (s t x y : Bool) → (((s && t) && x) && y) ≡ ((s && x) && (t && y))
shuffle true true x y = refl
shuffle true false true y = refl
shuffle true false false y = refl
shuffle false t x y = refl

pub both_law : (m : Meaning) (a first : ℕ) (n : Meaning) (b second : ℕ) (ok : Bool) → ok ≡ both_finish m a first n b second → BothFinish m a first n b second ok
both_law m a first n b second ok is h k e f =
    let left = ready_is h m e a first in
    let right = ready_is k n f b second in
    let all : ok ≡ ((sized first && hears m a) && (sized second && hears n b)) = is ∙ shuffle (sized first) (sized second) (hears m a) (hears n b) in (
      λ t. let both = and_parts (sized first && hears m a) (sized second && hears n b) (sym all ∙ t) in (left.0 both.0, right.0 both.1),
      λ r. all ∙ and_from (sized first && hears m a) (sized second && hears n b) (left.1 r.0) (right.1 r.1),
    )

pub tells_law : (m n : Meaning) (same : Bool) → Decides same (report m.part ≡ report n.part) → TellsApart m n same
tells_law m n same d h k e f =
    let both = tells h k m (report m.part) e refl in
    let then : report n.part ≡ report (reached k).part = ap (λ x. report x.part) f in (
      λ t. both.apart (d.0 t ∙ then),
      λ g. d.1 (both.alike g ∙ sym then),
    )
