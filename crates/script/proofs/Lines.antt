-- From the bytes after the letter to the whole line.
use Rattle.std.proofs.Common.{◌≡◌, ℕ, zero, suc, ◌≤◌, List, [], ◌∷◌, ◌++◌, length, get_or, take, drop, IsErrAnd, Some, None, Result, sym, refl, ap, ◌∙◌, subst, arith, MatchResult}
use Rattle.std.proofs.lemmas.Bool.{both_ways, eqb-true}
use Rattle.script.specs.declared.class.Class.TheVariants.{Space, Digit}
use Rattle.script.specs.Grammar.{admits, Part, one, number, Matches, rule, Right, FirstWrong, Wrong}
use Rattle.script.specs.Steps.{wrong_at}
use Rattle.std.proofs.lemmas.List.{drop_all}
use Rattle.script.proofs.Fronts.{halts_cons, halts_same, first_wrong, short_line}
use Rattle.script.proofs.Steps.{handed_on}
use Rattle.script.proofs.Columns.{NoDigitNext, Decided, one_starts, column_found}

no_digit_at_end : NoDigitNext []
no_digit_at_end b rest digit m = let z : ◌≡◌ {A = ℕ} 0 1 = cc in omega arith

no_digit_at_space : (ps : List Part) → NoDigitNext (one Space ∷ ps)
no_digit_at_space ps b rest digit m = both_ways (admits Digit 32) refl (sym (ap (admits Digit) (eqb-true b 32 (one_starts Space ps (b ∷ rest) m))) ∙ digit)

pub decided_tick : Decided (one Space ∷ number ∷ one Space ∷ number ∷ [])
decided_tick = (no_digit_at_space (number ∷ []), (no_digit_at_end, tt))

-- a right line, so that the empty text begins one
fast_line : Right (70 ∷ [])
fast_line = record { letter = 70; parts = []; rest = []; whole = refl; ruled = refl; matches = refl }

begun_empty : (k : ℕ) (xs : List ℕ) → k ≤ 0 → (more : List ℕ) × Right (take k xs ++ more)
begun_empty zero xs h = (70 ∷ [], fast_line)
begun_empty (suc k) xs h = absurd (omega arith)

pub wrong_empty : FirstWrong Right [] 1
wrong_empty =
    first_wrong (record { within = omega arith; before = λ k h. begun_empty k [] h; here = λ h more r. absurd (omega arith); short = λ r. let w = r.whole in let z : ◌≡◌ {A = ℕ} 0 1 = cc in omega arith }) refl

-- what a right line has after its letter
after_letter : (b : ℕ) (ps : List Part) (xs : List ℕ) → rule b ≡ Some ps → Right (b ∷ xs) → Matches ps xs
after_letter b ps xs e r =
    let same : b ≡ r.letter = ap (λ l. get_or l 0 0) r.whole in
    let parted : Some ps ≡ Some r.parts = sym e ∙ ap rule same ∙ r.ruled in
    let parts_same : r.parts ≡ ps = cc in
    subst (Matches ps) (sym (ap (drop 1) r.whole)) (subst (λ p. Matches p r.rest) parts_same r.matches)

pub wrong_letter : (b : ℕ) (xs : List ℕ) → rule b ≡ None → FirstWrong Right (b ∷ xs) 1
wrong_letter b xs e =
    first_wrong
    (record { within = omega arith; before = λ k h. begun_empty k (b ∷ xs) h; here = λ h more r. never more r; short = λ r. never xs r })
    refl
  where
    never : (ys : List ℕ) → Right (b ∷ ys) → ⊥
    never ys r =
        let same : b ≡ r.letter = ap (λ l. get_or l 0 0) r.whole in
        let clash : None ≡ Some r.parts = sym e ∙ ap rule same ∙ r.ruled in
        let z : ◌≡◌ {A = ℕ} 0 1 = cc in
        omega arith

pub wrong_rest : (b : ℕ) (ps : List Part) → rule b ≡ Some ps → Decided ps → (xs : List ℕ) (c : ℕ) → wrong_at ps 2 xs ≡ Some c → FirstWrong Right (b ∷ xs) c
wrong_rest b ps e decided xs c w =
    let g = column_found ps decided 2 xs c w in
    first_wrong
    (halts_cons b (halts_same (λ y m. record { letter = b; parts = ps; rest = y; whole = refl; ruled = e; matches = m }) (λ y _ r. after_letter b ps y e r) g.2))
    (omega (arith, g.1))

-- the same where the letter, the column and the bytes are known by equations, and a `?` hands the column on
pub letter_wrong : {T : Type 0} (P : T → Type 0) {b : ℕ} (at : ℕ) → b ≡ at → (ps : List Part) → rule at ≡ Some ps → Decided ps → {k : ℕ} {xs ys : List ℕ} {e : ℕ} (r : Result T ℕ) → k ≡ 2 → xs ≡ ys → wrong_at ps k xs ≡ Some e → IsErrAnd r (λ y. y ≡ e) → MatchResult r P (λ c. FirstWrong Right (b ∷ ys) c)
letter_wrong P {b} at is ps ruled decided {e = e} r second same w by =
    handed_on P _ e r by (wrong_rest b ps (ap rule is ∙ ruled) decided _ e ((λ i. wrong_at ps (sym second i) (sym same i)) ∙ w))

pub empty_wrong : (line : List ℕ) → length line ≡ 0 → Wrong line 1
empty_wrong line none = short_line (omega arith) (subst (λ l. FirstWrong Right l 1) (sym (drop_all 0 line (omega arith))) wrong_empty)
