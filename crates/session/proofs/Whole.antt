-- The answer to a whole script, by its parts.
use Rattle.std.proofs.Common.{◌≡◌, ℕ, ◌<◌, ◌≤◌, List, ◌++◌, length, take, true, Ok, Err, OnOk, Option, Result, sym, refl, ap, ◌∙◌, subst, arith}
use Rattle.std.proofs.lemmas.Bool.{cond-true, eq-eqb}
use Rattle.std.specs.Io.KnownBytes.{Appends}
use Rattle.answers.specs.Text.{refusal_text}
use Rattle.script.specs.declared.command.Command.{Command}
use Rattle.console.specs.Answering.{said, fits, answer_buffer}
use Rattle.console.specs.Booting.{FirstReads, boot_outcome, booted, boot_result}
use Rattle.session.specs.Lines.{line_of, after_line}
use Rattle.session.specs.Answered.{ReadAs, answers, at_start, Later, AnswerTo, Answered}
use Rattle.session.proofs.Written.{appends_both, in_front}

pub on_ok : {T E : Type 0} {P Q : Type 0} (r : Result T E) → (P → Q) → OnOk r P → OnOk r Q
on_ok (Ok x) f p = f p
on_ok (Err e) f p = tt

pub too_long : (script : List ℕ) → 65536 < length script → AnswerTo script (refusal_text 0 6)
too_long script more = record { long = λ _. refl; short = λ (few : length script ≤ 65536). absurd (omega arith) }

by_lines : (script later : List ℕ) → length script ≤ 65536 → (first : Result ℕ ℕ) → FirstReads (line_of script) first → Later first (after_line script) later → AnswerTo script (said 1 (boot_outcome first) ++ later)
by_lines script later few first reads follows =
    record {
      long = λ (more : 65536 < length script). absurd (omega arith);
      short = λ _. record { first = first; later = later; reads = reads; follows = follows; whole = refl };
    }

module _ (script : List ℕ) (few : length script ≤ 65536) (s : Result ℕ ℕ) (reads : FirstReads (line_of script) s) (old mid : Option (List ℕ)) (first : Appends old mid (said 1 (boot_outcome s))) where
  pub lines_after : (n : ℕ) → s ≡ Ok n → (new : Option (List ℕ)) → (ss : List (Result Command ℕ)) × ReadAs (after_line script) ss × Appends mid new (answers (at_start n) 0x3A 1 ss) → Answered script old new
  lines_after n is new all =
      let later = answers (at_start n) 0x3A 1 all.0 in (
        said 1 (boot_outcome s) ++ later,
        by_lines script later few s reads (subst (λ x. Later x (after_line script) later) (sym is) (all.0, all.1, refl)),
        appends_both old mid new (said 1 (boot_outcome s)) later first all.2,
      )

-- ---- the first line, in a buffer that fits

module _ (before : List ℕ) (long : length before ≡ 544) where
  pub fit : fits (length before) ≡ true
  fit = eq-eqb (length before) 544 long

  pub good_first : (s : Result ℕ ℕ) (p : ℕ × ℕ) → Ok p ≡ boot_result (length before) s → (s ≡ Ok p.0) × (p.1 ≡ length (said 1 (boot_outcome s)))
  good_first (Ok n) p is = let e : Ok p ≡ booted (Ok n) = is ∙ cond-true _ _ _ fit in (cc, cc)
  good_first (Err k) p is = let e : Ok p ≡ booted (Err k) = is ∙ cond-true _ _ _ fit in absurd (cc)

  pub first_front : (s : Result ℕ ℕ) (after : List ℕ) (k : ℕ) → after ≡ answer_buffer before 1 (boot_outcome s) → k ≡ length (said 1 (boot_outcome s)) → take k after ≡ said 1 (boot_outcome s)
  first_front s after k written is = ap (take k) (written ∙ cond-true _ _ _ fit) ∙ in_front (said 1 (boot_outcome s)) before k is
