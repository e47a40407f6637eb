-- The column that `wrong_at` gives is the first wrong one.
use Rattle.std.proofs.Common.{◌≡◌, ℕ, zero, suc, ◌+◌, ◌≤◌, true, false, eqb, ◌⊎◌, List, [], ◌∷◌, ◌++◌, length, get_or, take, drop, Some, sym, refl, ap, ◌∙◌, subst, inl, inr, ⊎_elim, arith, take-append-drop, length-take-le}
use Rattle.std.proofs.lemmas.Bool.{both_ways, cases_Bool, cond-true, cond-false, cond_both, eqb-true, eqb-false}
use Rattle.script.specs.declared.class.Class.{Class}
use Rattle.script.specs.declared.class.Class.TheVariants.{Space, Bit, Digit, Hex}
use Rattle.script.specs.Grammar.{admits, Part, one, number, Digits, Spells, Matches}
use Rattle.script.specs.Steps.{run, wrong_at}
use Rattle.script.proofs.Fronts.{Halts, halts_cons, offset, offset_is, halts_append, halts_same, halts_first}

-- no digit begins a text of the parts, so a number before them ends where its digits end
abbrev pub NoDigitNext : List Part → Type 0
NoDigitNext ps = (b : ℕ) (rest : List ℕ) → admits Digit b ≡ true → Matches ps (b ∷ rest) → ⊥

abbrev pub Decided : List Part → Type 0
Decided [] = Unit {0}
Decided (one c ∷ ps) = Decided ps
Decided (number ∷ ps) = NoDigitNext ps × Decided ps

byte_of : (c : Class) → (b : ℕ) × (admits c b ≡ true)
byte_of Space = (32, refl)
byte_of Bit = (48, refl)
byte_of Digit = (48, refl)
byte_of Hex = (48, refl)

begun_empty_byte : (c : Class) → admits c 0 ≡ false
begun_empty_byte Space = refl
begun_empty_byte Bit = refl
begun_empty_byte Digit = refl
begun_empty_byte Hex = refl

pub sample : (ps : List Part) → (w : List ℕ) × Matches ps w
sample [] = ([], refl)
sample (one c ∷ ps) = let b = byte_of c in let w = sample ps in (b.0 ∷ w.0, (b.0 ∷ [], w.0, refl, (b.0, refl, b.1), w.1))
sample (number ∷ ps) = let w = sample ps in (48 ∷ w.0, (48 ∷ [], w.0, refl, (omega arith, omega arith, (refl, tt)), w.1))

pub one_starts : (c : Class) (ps : List Part) (y : List ℕ) → Matches (one c ∷ ps) y → admits c (get_or y 0 0) ≡ true
one_starts c ps y m =
    let whole : y ≡ m.3.0 ∷ m.1 = m.2 ∙ ap (λ t. t ++ m.1) m.3.1 in
    ap (λ l. admits c (get_or l 0 0)) whole ∙ m.3.2

digits_start : (t rest : List ℕ) → 1 ≤ length t → Digits t → admits Digit (get_or (t ++ rest) 0 0) ≡ true
digits_start [] rest h d = absurd (omega arith)
digits_start (b ∷ t) rest h d = d.0

number_starts : (ps : List Part) (y : List ℕ) → Matches (number ∷ ps) y → admits Digit (get_or y 0 0) ≡ true
number_starts ps y m = ap (λ l. admits Digit (get_or l 0 0)) m.2 ∙ digits_start m.0 m.1 m.3.0 m.3.2

-- a run of digits is within its bound and its bytes, and has digits only
pub run_facts : (n : ℕ) (bs : List ℕ) → (run n bs ≤ n) × (run n bs ≤ length bs) × Digits (take (run n bs) bs)
run_facts zero bs = (omega arith, omega arith, tt)
run_facts (suc n) [] = (omega arith, omega arith, tt)
run_facts (suc n) (b ∷ bs) =
    cond_both (admits Digit b) (suc (run n bs)) 0 (λ m. (m ≤ suc n) × (m ≤ length (b ∷ bs)) × Digits (take m (b ∷ bs)))
    (λ digit. let h = run_facts n bs in (omega arith, omega arith, (digit, h.2)))
    (λ _. (omega arith, omega arith, tt))

-- it ends at its bound, or before a byte that is no digit
pub run_ends : (n : ℕ) (bs : List ℕ) → (run n bs ≡ n) ⊎ (admits Digit (get_or (drop (run n bs) bs) 0 0) ≡ false)
run_ends zero bs = inl refl
run_ends (suc n) [] = inr refl
run_ends (suc n) (b ∷ bs) =
    cond_both (admits Digit b) (suc (run n bs)) 0 (λ m. (m ≡ suc n) ⊎ (admits Digit (get_or (drop m (b ∷ bs)) 0 0) ≡ false))
    (λ _. ⊎_elim (λ e. inl (ap suc e)) (λ e. inr e) (run_ends n bs))
    (λ none. inr none)

-- a text that goes on from a run of digits has that run for its number
only : (ps : List Part) → NoDigitNext ps → (m : ℕ) (t y u rest : List ℕ) → Digits t → (length t ≡ m) ⊎ (admits Digit (get_or y 0 0) ≡ false) → t ++ y ≡ u ++ rest → Digits u → length u ≤ m → Matches ps rest → Matches ps y
only ps next m [] y [] rest dt stops e du short w = subst (Matches ps) (sym e) w
only ps next m [] y (x ∷ u) rest dt stops e du short w =
    absurd (⊎_elim (λ full. omega arith) (λ none. both_ways _ (sym (ap (λ l. admits Digit (get_or l 0 0)) e) ∙ none) du.0) stops)
only ps next m (b ∷ t) y [] rest dt stops e du short w = absurd (next b (t ++ y) dt.0 (subst (Matches ps) (sym e) w))
only ps next zero (b ∷ t) y (x ∷ u) rest dt stops e du short w = absurd (omega arith)
only ps next (suc m) (b ∷ t) y (x ∷ u) rest dt stops e du short w =
    only ps next m t y u rest dt.1 (⊎_elim (λ full. inl (omega arith)) (λ none. inr none) stops) (ap (drop 1) e) du.1 (omega arith) w

-- a text of the parts goes wrong d bytes on
abbrev pub HaltsAfter : List Part → ℕ → List ℕ → ℕ → Type 0
HaltsAfter ps k xs c = (d : ℕ) × (c ≡ k + d) × Halts (Matches ps) xs d

same_some : (m n : ℕ) → Some m ≡ Some n → n ≡ m + 0
same_some m n e = let same : m ≡ n = cc in omega arith

end_halts : (b : ℕ) (xs : List ℕ) → Halts (Matches []) (b ∷ xs) 0
end_halts b xs =
    record {
      within = omega arith;
      before = front;
      here = λ _ more l. let z : ◌≡◌ {A = ℕ} 0 1 = cc in omega arith;
      short = λ l. let z : ◌≡◌ {A = ℕ} 0 1 = cc in omega arith;
    }
  where
    front : (k : ℕ) → k ≤ 0 → (more : List ℕ) × Matches [] (take k (b ∷ xs) ++ more)
    front zero h = ([], refl)
    front (suc k) h = absurd (omega arith)

one_rest : (p : Class) (ps : List Part) (b : ℕ) (y : List ℕ) → Matches (one p ∷ ps) (b ∷ y) → Matches ps y
one_rest p ps b y w =
    let whole : b ∷ y ≡ w.3.0 ∷ w.1 = w.2 ∙ ap (λ t. t ++ w.1) w.3.1 in
    subst (Matches ps) (sym (ap (drop 1) whole)) w.4

-- a number, and then bytes that go wrong
after_number : (ps : List Part) → NoDigitNext ps → (xs : List ℕ) (d : ℕ) → (run 4 xs ≡ 0 → ⊥) → Halts (Matches ps) (drop (run 4 xs) xs) d → Halts (Matches (number ∷ ps)) xs (run 4 xs + d)
after_number ps next xs d some s =
    let n = run 4 xs in
    let t = take n xs in
    let facts = run_facts 4 xs in
    let long : length t ≡ n = length-take-le n xs facts.1 in
    let spelled : Spells number t = (omega (arith, some, long, facts.0), omega (arith, long, facts.0), facts.2) in
    let ends : (length t ≡ 4) ⊎ (admits Digit (get_or (drop n xs) 0 0) ≡ false) = ⊎_elim (λ full. inl (long ∙ full)) (λ none. inr none) (run_ends 4 xs) in
    let inside : Halts (λ y. Matches (number ∷ ps) (t ++ y)) (drop n xs) d =
    halts_same (λ y w. (t, y, refl, spelled, w))
    (λ y same w. only ps next 4 t y w.0 w.1 facts.2 (⊎_elim (λ full. inl full) (λ none. inr (ap (admits Digit) same ∙ none)) ends) w.2 w.3.2 w.3.1 w.4)
    s in
    let moved : offset t d ≡ n + d = offset_is t d ∙ ap (λ m. m + d) long in
    subst (λ l. Halts (Matches (number ∷ ps)) l (n + d)) (take-append-drop n xs) (subst (Halts (Matches (number ∷ ps)) (t ++ drop n xs)) moved (halts_append t inside))

no_digit : (n : ℕ) (xs : List ℕ) → run (suc n) xs ≡ 0 → admits Digit (get_or xs 0 0) ≡ false
no_digit n [] e = refl
no_digit n (b ∷ xs) e = ⊎_elim (λ digit. absurd (omega (arith, sym (cond-true _ (suc (run n xs)) 0 digit) ∙ e))) (λ none. none) (cases_Bool (admits Digit b))

pub column_found : (ps : List Part) → Decided ps → (k : ℕ) (xs : List ℕ) (c : ℕ) → wrong_at ps k xs ≡ Some c → HaltsAfter ps k xs c
column_found [] decided k [] c e = absurd (let z : ◌≡◌ {A = ℕ} 0 1 = cc in omega arith)
column_found [] decided k (b ∷ xs) c e = (0, same_some k c e, end_halts b xs)
column_found (one p ∷ ps) decided k [] c e = (0, same_some k c e, halts_first (admits p) _ (sample (one p ∷ ps)).1 (one_starts p ps) [] (begun_empty_byte p))
column_found (one p ∷ ps) decided k (b ∷ xs) c e =
    ⊎_elim
    (λ good.
    let on : wrong_at ps (k + 1) xs ≡ Some c = sym (cond-true _ _ _ good) ∙ e in
    let g = column_found ps decided (k + 1) xs c on in
    (suc g.0, omega (arith, g.1), halts_cons b (halts_same (λ y w. (b ∷ [], y, refl, (b, refl, good), w)) (λ y _ w. one_rest p ps b y w) g.2)))
    (λ bad. (0, same_some k c (sym (cond-false _ _ _ bad) ∙ e), halts_first (admits p) _ (sample (one p ∷ ps)).1 (one_starts p ps) (b ∷ xs) bad))
    (cases_Bool (admits p b))
column_found (number ∷ ps) decided k xs c e =
    ⊎_elim
    (λ none. (0, same_some k c (sym (cond-true _ _ _ none) ∙ e), halts_first (admits Digit) _ (sample (number ∷ ps)).1 (number_starts ps) xs (no_digit 3 xs (eqb-true _ 0 none))))
    (λ some.
    let on : wrong_at ps (k + run 4 xs) (drop (run 4 xs) xs) ≡ Some c = sym (cond-false _ _ _ some) ∙ e in
    let g = column_found ps decided.1 (k + run 4 xs) (drop (run 4 xs) xs) c on in
    (run 4 xs + g.0, omega (arith, g.1), after_number ps decided.0 xs g.0 (eqb-false _ 0 some) g.2))
    (cases_Bool (eqb (run 4 xs) 0))
