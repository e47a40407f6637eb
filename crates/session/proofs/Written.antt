-- Answers at the front of a buffer, written one after another.
use Rattle.std.proofs.Common.{◌≡◌, ℕ, List, [], ◌++◌, length, take, drop, Some, None, Ok, Err, Option, Result, MatchResult, sym, refl, ap, ◌∙◌, append_assoc, append-nil}
use Rattle.std.proofs.lemmas.List.{take_at}
use Rattle.std.proofs.lemmas.Bool.{cond-true, eq-eqb}
use Rattle.std.specs.Io.KnownBytes.{Appends}
use Rattle.answers.specs.Text.{at_front}
use Rattle.console.specs.declared.fault.ConsoleFault.{ConsoleFault}
use Rattle.console.specs.Outcomes.{Outcome, done, byte, report, refused}
use Rattle.console.specs.Answering.{said, result_of, answer_result, answer_buffer, fault_length, answer_length}

pub appends_nothing : (a : Option (List ℕ)) → Appends a a []
appends_nothing None = tt
appends_nothing (Some xs) = sym (append-nil xs)

pub appends_both : (a b c : Option (List ℕ)) (xs ys : List ℕ) → Appends a b xs → Appends b c ys → Appends a c (xs ++ ys)
appends_both None b c xs ys p q = tt
appends_both (Some x) None c xs ys p q = absurd p
appends_both (Some x) (Some y) None xs ys p q = absurd q
appends_both (Some x) (Some y) (Some z) xs ys p q = q ∙ ap (λ l. l ++ ys) p ∙ append_assoc x xs ys

-- the length by an answer or by its fault
abbrev pub Length : Result ℕ ConsoleFault → ℕ → Type 0
Length r k = MatchResult r (λ n. k ≡ n) (λ e. k ≡ fault_length e)

length_is : (r : Result ℕ ConsoleFault) (k : ℕ) → Length r k → k ≡ answer_length r
length_is (Ok n) k is = is
length_is (Err e) k is = is

length_said : (n : ℕ) (o : Outcome) → answer_length (result_of n o) ≡ length (said n o)
length_said n done = refl
length_said n (byte b) = refl
length_said n (report bytes) = refl
length_said n (refused c) = refl

pub in_front : (text before : List ℕ) (k : ℕ) → k ≡ length text → take k (at_front text before) ≡ text
in_front text before k is = take_at text (drop (length text) before) k (sym is)

pub front_said :
    (n : ℕ) (o : Outcome) (before after : List ℕ) (r : Result ℕ ConsoleFault) (k : ℕ) →
    length before ≡ 544 → r ≡ answer_result (length before) n o → after ≡ answer_buffer before n o → Length r k → take k after ≡ said n o
front_said n o before after r k long answers written is =
    let fit = eq-eqb (length before) 544 long in
    let k_is : k ≡ length (said n o) = length_is r k is ∙ ap answer_length (answers ∙ cond-true _ _ _ fit) ∙ length_said n o in
    ap (take k) (written ∙ cond-true _ _ _ fit) ∙ in_front (said n o) before k k_is
