-- A script has one answer at most.
use Rattle.std.proofs.Common.{◌≡◌, ℕ, List, [], ◌∷◌, ◌++◌, length, Ok, Err, Result, sym, refl, ap, ◌∙◌, subst, ⊎_elim, arith}
use Rattle.std.proofs.lemmas.Bool.{cases_lt}
use Rattle.script.specs.declared.command.Command.{Command}
use Rattle.console.specs.Answering.{said}
use Rattle.console.specs.Booting.{boot_outcome}
use Rattle.console.proofs.Lines.{reads_one, first_one}
use Rattle.session.specs.Lines.{line_of, after_line}
use Rattle.session.specs.Answered.{ReadAs, answers, at_start, Later, LineByLine, OneAnswer}

same_readings : (text : List ℕ) (ss us : List (Result Command ℕ)) → ReadAs text ss → ReadAs text us → ss ≡ us
same_readings text [] [] r q = refl
same_readings text [] (u ∷ us) r q = absurd (omega (arith, r, q.0))
same_readings text (s ∷ ss) [] r q = absurd (omega (arith, r.0, q))
same_readings text (s ∷ ss) (u ∷ us) r q = λ i. reads_one (line_of text) s u r.1 q.1 i ∷ same_readings (after_line text) ss us r.2 q.2 i

same_later : (first : Result ℕ ℕ) (rest t u : List ℕ) → Later first rest t → Later first rest u → t ≡ u
same_later (Ok n) rest t u r q = r.2 ∙ ap (answers (at_start n) 0x3A 1) (same_readings rest r.0 q.0 r.1 q.1) ∙ sym q.2
same_later (Err k) rest t u r q = r ∙ sym q

same_lines : (script t u : List ℕ) → LineByLine script t → LineByLine script u → t ≡ u
same_lines script t u r q =
    let one = first_one (line_of script) r.first q.first r.reads q.reads in
    let later = same_later q.first (after_line script) r.later q.later (subst (λ x. Later x (after_line script) r.later) one r.follows) q.follows in
    r.whole ∙ (λ i. said 1 (boot_outcome (one i)) ++ later i) ∙ sym q.whole

pub one_answer : OneAnswer
one_answer script t u r q =
    ⊎_elim
    (λ more. r.long more ∙ sym (q.long more))
    (λ few. same_lines script t u (r.short few) (q.short few))
    (cases_lt 65536 (length script))
