-- Laws of every line: what is read is right, there is one wrong column at most, and a right line has none.
use Rattle.std.proofs.Common.{◌≡◌, ℕ, suc, ◌+◌, ◌<◌, ◌≤◌, eqb, List, [], ◌∷◌, ◌++◌, length, Some, None, Option, sym, refl, ap, ◌∙◌, subst, ⊎_elim, append-nil, arith, length-append}
use Rattle.std.proofs.lemmas.Bool.{cases_lt, cases_order, cond_both}
use Rattle.script.specs.declared.class.Class.TheVariants as class
use Rattle.script.specs.declared.line.Line.TheVariants.{Tick, On, Pol, Fast, Slow, Write, Get, Read}
use Rattle.script.specs.Grammar.{Part, one, number, Spells, Matches, rule, Right, FirstRight, FirstWrong, WrongOf, Wrong, FirstLineWrong}
use Rattle.script.specs.Said.{text, SaidIsRight}

spaced : (ps : List Part) (bs : List ℕ) → Matches ps bs → Matches (one class.Space ∷ ps) (32 ∷ bs)
spaced ps bs m = (32 ∷ [], bs, refl, (32, refl, refl), m)

last : (p : Part) (t : List ℕ) → Spells p t → Matches (p ∷ []) t
last p t s = (t, [], sym (append-nil t), s, refl)

-- two hexadecimal digits before more
hexed : (ps : List Part) (t bs : List ℕ) → Matches (one class.Hex ∷ one class.Hex ∷ []) t → Matches ps bs → Matches (one class.Hex ∷ one class.Hex ∷ ps) (t ++ bs)
hexed ps t bs h m =
    let x = h.3.0 in
    let y = h.4.3.0 in
    let after : h.1 ≡ y ∷ [] = h.4.2 ∙ (λ i. h.4.3.1 i ++ h.4.4 i) in
    let whole : t ≡ x ∷ y ∷ [] = h.2 ∙ (λ i. h.3.1 i ++ after i) in
    subst (λ l. Matches (one class.Hex ∷ one class.Hex ∷ ps) (l ++ bs)) (sym whole) (x ∷ [], y ∷ bs, refl, (x, refl, h.3.2), (y ∷ [], bs, refl, (y, refl, h.4.3.2), m))

counted : (ps : List Part) (t bs : List ℕ) → Spells number t → Matches ps bs → Matches (number ∷ ps) (t ++ bs)
counted ps t bs n m = (t, bs, refl, n, m)

abbrev bits : List Part
bits = one class.Bit ∷ []

abbrev hexes : List Part
hexes = one class.Hex ∷ one class.Hex ∷ []

abbrev numbers : List Part
numbers = number ∷ one class.Space ∷ number ∷ []

abbrev writes : List Part
writes = one class.Hex ∷ one class.Hex ∷ one class.Space ∷ hexes

pub said_is_right : SaidIsRight
said_is_right (Tick i v) line s =
    record { letter = 84; parts = one class.Space ∷ numbers; rest = 32 ∷ (text i ++ (32 ∷ text v)); whole = s.0; ruled = refl; matches = spaced numbers (text i ++ (32 ∷ text v)) (counted (one class.Space ∷ number ∷ []) (text i) (32 ∷ text v) s.1.0 (spaced (number ∷ []) (text v) (last number (text v) s.1.1))) }
said_is_right (On b) line s = record { letter = 79; parts = one class.Space ∷ bits; rest = 32 ∷ text b; whole = s.0; ruled = refl; matches = spaced bits (text b) (last (one class.Bit) (text b) s.1) }
said_is_right (Pol b) line s = record { letter = 76; parts = one class.Space ∷ bits; rest = 32 ∷ text b; whole = s.0; ruled = refl; matches = spaced bits (text b) (last (one class.Bit) (text b) s.1) }
said_is_right Fast line s = record { letter = 70; parts = []; rest = []; whole = s.0; ruled = refl; matches = refl }
said_is_right Slow line s = record { letter = 83; parts = []; rest = []; whole = s.0; ruled = refl; matches = refl }
said_is_right (Write r v) line s =
    record { letter = 87; parts = one class.Space ∷ writes; rest = 32 ∷ (text r ++ (32 ∷ text v)); whole = s.0; ruled = refl; matches = spaced writes (text r ++ (32 ∷ text v)) (hexed (one class.Space ∷ hexes) (text r) (32 ∷ text v) s.1.0 (spaced hexes (text v) s.1.1)) }
said_is_right (Get r) line s = record { letter = 71; parts = one class.Space ∷ hexes; rest = 32 ∷ text r; whole = s.0; ruled = refl; matches = spaced hexes (text r) s.1 }
said_is_right Read line s = record { letter = 82; parts = []; rest = []; whole = s.0; ruled = refl; matches = refl }

-- the first wrong columns of one line are the same
not_below : {right : List ℕ → Type 0} (line : List ℕ) (c d : ℕ) → FirstWrong right line c → FirstWrong right line d → c < d → ⊥
not_below line c d f g less = f.here (omega (arith, g.within)) (g.before c less)

same_first : {right : List ℕ → Type 0} (line : List ℕ) (c d : ℕ) → FirstWrong right line c → FirstWrong right line d → c ≡ d
same_first line c d f g =
    ⊎_elim (λ same. same) (λ o. absurd (⊎_elim (λ less. not_below line c d f g less) (λ more. not_below line d c g f more) o)) (cases_order c d)

same_wrong : {right : List ℕ → Type 0} (line : List ℕ) (c d : ℕ) → WrongOf right line c → WrongOf right line d → c ≡ d
same_wrong line c d v w = ⊎_elim (λ long. v.0 long ∙ sym (w.0 long)) (λ short. same_first line c d (v.1 short) (w.1 short)) (cases_lt 16 (length line))

-- the most bytes that the parts take
abbrev longest : List Part → ℕ
longest [] = 0
longest (one c ∷ ps) = suc (longest ps)
longest (number ∷ ps) = 4 + longest ps

within_longest : (ps : List Part) (bs : List ℕ) → Matches ps bs → length bs ≤ longest ps
within_longest [] bs m = omega (arith, ap length m)
within_longest (one c ∷ ps) bs m = omega (arith, ap length m.2, length-append m.0 m.1, ap length m.3.1, within_longest ps m.1 m.4)
within_longest (number ∷ ps) bs m = omega (arith, ap length m.2, length-append m.0 m.1, m.3.1, within_longest ps m.1 m.4)

-- no rule takes more than ten bytes
of_rule : (qs ps : List Part) → longest qs ≤ 10 → Some qs ≡ Some ps → longest ps ≤ 10
of_rule qs ps h e = let same : qs ≡ ps = cc in subst (λ p. longest p ≤ 10) same h

abbrev Few : List Part → Option (List Part) → Type 0
Few ps o = o ≡ Some ps → longest ps ≤ 10

no_rule : (ps : List Part) → Few ps None
no_rule ps e = let z : ◌≡◌ {A = ℕ} 0 1 = cc in absurd (omega arith)

ruled_few : (b : ℕ) (ps : List Part) → Few ps (rule b)
ruled_few b ps =
    cond_both (eqb b 84) _ _ (Few ps) (λ _. of_rule _ ps (omega arith))
    (λ _. cond_both (eqb b 79) _ _ (Few ps) (λ _. of_rule _ ps (omega arith))
    (λ _. cond_both (eqb b 76) _ _ (Few ps) (λ _. of_rule _ ps (omega arith))
    (λ _. cond_both (eqb b 70) _ _ (Few ps) (λ _. of_rule _ ps (omega arith))
    (λ _. cond_both (eqb b 83) _ _ (Few ps) (λ _. of_rule _ ps (omega arith))
    (λ _. cond_both (eqb b 87) _ _ (Few ps) (λ _. of_rule _ ps (omega arith))
    (λ _. cond_both (eqb b 71) _ _ (Few ps) (λ _. of_rule _ ps (omega arith))
    (λ _. cond_both (eqb b 82) _ _ (Few ps) (λ _. of_rule _ ps (omega arith)) (λ _. no_rule ps))))))))

right_short : (line : List ℕ) → Right line → length line ≤ 16
right_short line r = omega (arith, ap length r.whole, within_longest r.parts r.rest r.matches, ruled_few r.letter r.parts r.ruled)

first_short : (line : List ℕ) → FirstRight line → length line ≤ 16
first_short line r = omega (arith, ap length r.whole, r.spelled.1)

pub one_wrong : (line : List ℕ) (c d : ℕ) → Wrong line c → Wrong line d → c ≡ d
one_wrong line c d v w = same_wrong line c d v w

pub wrong_right : (line : List ℕ) (k : ℕ) → Wrong line k → Right line → ⊥
wrong_right line k w r = (w.1 (right_short line r)).short r

pub first_one_wrong : (line : List ℕ) (c d : ℕ) → FirstLineWrong line c → FirstLineWrong line d → c ≡ d
first_one_wrong line c d v w = same_wrong line c d v w

pub first_wrong_right : (line : List ℕ) (k : ℕ) → FirstLineWrong line k → FirstRight line → ⊥
first_wrong_right line k w r = (w.1 (first_short line r)).short r
