-- How far a text begins one of a set L of texts: the first d bytes do, and one more does not.
use Rattle.std.proofs.Common.{◌≡◌, ℕ, zero, suc, ◌+◌, ◌<◌, ◌≤◌, Bool, true, false, List, [], ◌∷◌, ◌++◌, length, get_or, take, refl, ap, ◌∙◌, subst, arith}
use Rattle.std.proofs.lemmas.Bool.{both_ways}
use Rattle.script.specs.Grammar.{FirstWrong, WrongOf}

pub record Halts (L : List ℕ → Type 0) (xs : List ℕ) (d : ℕ) : Type 0 where
  pub within : d ≤ length xs
  pub before : (k : ℕ) → k ≤ d → (more : List ℕ) × L (take k xs ++ more)
  pub here : d < length xs → (more : List ℕ) → L (take (suc d) xs ++ more) → ⊥
  pub short : L xs → ⊥

-- one byte before
pub halts_cons : {L : List ℕ → Type 0} {xs : List ℕ} {d : ℕ} (b : ℕ) → Halts (λ y. L (b ∷ y)) xs d → Halts L (b ∷ xs) (suc d)
halts_cons {L} {xs} {d} b s = record { within = omega (arith, s.within); before = back; here = λ h more l. s.here (omega arith) more l; short = s.short }
  where
    back : (k : ℕ) → k ≤ suc d → (more : List ℕ) × L (take k (b ∷ xs) ++ more)
    back zero h = let w = s.before 0 (omega arith) in (b ∷ w.0, w.1)
    back (suc k) h = s.before k (omega arith)

abbrev pub offset : List ℕ → ℕ → ℕ
offset [] d = d
offset (b ∷ t) d = suc (offset t d)

pub offset_is : (t : List ℕ) (d : ℕ) → offset t d ≡ length t + d
offset_is [] d = omega arith
offset_is (b ∷ t) d = omega (arith, offset_is t d)

-- a text before
pub halts_append : {L : List ℕ → Type 0} {xs : List ℕ} {d : ℕ} (t : List ℕ) → Halts (λ y. L (t ++ y)) xs d → Halts L (t ++ xs) (offset t d)
halts_append [] s = s
halts_append (b ∷ t) s = halts_cons b (halts_append t s)

head_kept : (xs more : List ℕ) (d : ℕ) → 0 < length xs → get_or (take (suc d) xs ++ more) 0 0 ≡ get_or xs 0 0
head_kept [] more d h = absurd (omega arith)
head_kept (x ∷ xs) more d h = refl

-- another set, with the same texts of that first byte
pub halts_same : {L K : List ℕ → Type 0} {xs : List ℕ} {d : ℕ} → ((y : List ℕ) → L y → K y) → ((y : List ℕ) → get_or y 0 0 ≡ get_or xs 0 0 → K y → L y) → Halts L xs d → Halts K xs d
halts_same {L} {K} {xs} {d} go back s =
    record {
      within = s.within;
      before = λ k h. let w = s.before k h in (w.0, go _ w.1);
      here = λ h more l. s.here h more (back _ (head_kept xs more d (omega arith)) l);
      short = λ l. s.short (back xs refl l);
    }

-- a test that the first byte of each text of L passes, and this first byte does not
pub halts_first : {L : List ℕ → Type 0} (p : ℕ → Bool) (w : List ℕ) → L w → ((y : List ℕ) → L y → p (get_or y 0 0) ≡ true) → (xs : List ℕ) → p (get_or xs 0 0) ≡ false → Halts L xs 0
halts_first {L} p w l starts xs none =
    record {
      within = omega arith;
      before = front;
      here = λ h more r. both_ways _ (ap p (head_kept xs more 0 h) ∙ none) (starts _ r);
      short = λ r. both_ways _ none (starts xs r);
    }
  where
    front : (k : ℕ) → k ≤ 0 → (more : List ℕ) × L (take k xs ++ more)
    front zero h = (w, l)
    front (suc k) h = absurd (omega arith)

-- the column after those bytes is the first wrong one
pub first_wrong : {L : List ℕ → Type 0} {xs : List ℕ} {d c : ℕ} → Halts L xs d → c ≡ suc d → FirstWrong L xs c
first_wrong {L} {xs} {d} {c} s e =
    record {
      within = omega (arith, s.within);
      before = λ k h. s.before k (omega arith);
      here = λ h b. s.here (omega arith) b.0 (subst (λ m. L (take m xs ++ b.0)) e b.1);
      short = s.short;
    }

pub short_line : {L : List ℕ → Type 0} {xs : List ℕ} {c : ℕ} → length xs ≤ 16 → FirstWrong L xs c → WrongOf L xs c
short_line short w = ((λ long. absurd (omega arith)), (λ _. w))
