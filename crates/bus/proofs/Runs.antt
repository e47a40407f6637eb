-- Runs of a bus through frames: one frame after another, and one more bit or byte.
use Rattle.std.proofs.Common.{◌≡◌, ℕ, zero, suc, ◌+◌, ◌*◌, ◌/◌, ◌%◌, ◌^◌, ◌<◌, ◌≤◌, Bool, true, false, not, eqb, List, [], ◌∷◌, ◌++◌, length, get_or, set, sym, refl, subst, pow-suc, add-one, arith, length-append, length-set, pow_mono, eq-eqb, ne_eqb}
use Rattle.std.specs.Int.Bits.{bit_or, or_zero_r}
use Rattle.std.proofs.lemmas.Grind.{common_steps}
use Rattle.std.proofs.lemmas.Nat.{or_block}
use mir.Val.{bool_byte}
use Rattle.bus.specs.declared.levels.Levels.{Levels}
use Rattle.bus.specs.Frames.{Beat, Driven, done, told, heard, bit_frame, heard_frame, bits_frame, byte_frame, taken_bits, taken_bytes}

-- one frame after another
pub then : {B : Type 0} {R : B → Levels → Bool → B → Type 0} {t : B} {ys : List Beat} {s m : B} {xs : List Beat}
    → Driven R s xs m → Driven R m ys t → Driven R s (xs ++ ys) t
then done q = q
then (told r p) q = told r (then p q)
then (heard r p) q = heard r (then p q)

-- what was heard does not count
pub unheard : {B : Type 0} {R : B → Levels → Bool → B → Type 0} {s t : B} {b a : Bool}
    → Driven R s (heard_frame b a) t → Driven R s (bit_frame b) t
unheard (told r (heard r' p)) = told r (told r' p)

-- eight bits, and what is heard in the ninth
pub ninth : {B : Type 0} {R : B → Levels → Bool → B → Type 0} {s m t : B} (n i : ℕ) (a : Bool)
    → i ≡ 8 → Driven R s (bits_frame n i) m → Driven R m (heard_frame true a) t → Driven R s (byte_frame n (not a)) t
unfolding byte_frame
ninth n i true e p q = then (rw e at p) q
ninth n i false e p q = then (rw e at p) q

-- one more bit heard
odd_is : (n : ℕ) (b : Bool) → eqb ((n * 2 + bool_byte b) % 2) 1 ≡ b
odd_is n true = eq-eqb _ _ (omega arith)
odd_is n false = ne_eqb _ _ (omega arith)

half_is : (n : ℕ) (b : Bool) → (n * 2 + bool_byte b) / 2 ≡ n
half_is n true = omega arith
half_is n false = omega arith

bit_le : (b : Bool) → bool_byte b ≤ 1
bit_le true = omega arith
bit_le false = omega arith

or_low : (n k : ℕ) → k ≤ 1 → bit_or (n * 2) k ≡ n * 2 + k
or_low n k h =
    let high : n * 2 ^ 1 + 0 ≡ n * 2 = omega arith in
    let low : 0 * 2 ^ 1 + k ≡ k = omega arith in
    let both : bit_or (n * 2 ^ 1 + 0) (0 * 2 ^ 1 + k) ≡ bit_or n 0 * 2 ^ 1 + bit_or 0 k = or_block 1 n 0 0 k (omega arith) (omega arith) in
    rw (high, low, or_zero_r n) at both

pub bit_more : {B : Type 0} {R : B → Levels → Bool → B → Type 0} {s m t : B} (n i k : ℕ) (b : Bool) → n < 2 ^ i → i < 8 → k ≡ bool_byte b
    → Driven R s (taken_bits n i) m → Driven R m (heard_frame true b) t
    → (bit_or (n * 2 % 256) k < 2 ^ (i + 1)) × Driven R s (taken_bits (bit_or (n * 2 % 256) k) (i + 1)) t
unfolding taken_bits
bit_more {R = R} {s = s} {m = m} {t = t} n i k b h l e p q =
    let w : 2 ^ i ≤ 2 ^ 7 = pow_mono {i = i} {j = 7} (omega arith) in
    let d : n * 2 % 256 ≡ n * 2 = omega arith in
    rw (d, e, or_low n (bool_byte b) (bit_le b), add-one) (
      omega (arith, pow-suc 2 i, bit_le b),
      then (subst (λ x. Driven R s (taken_bits x i) m) (sym (half_is n b)) p) (subst (λ x. Driven R m (heard_frame true x) t) (sym (odd_is n b)) q),
    )

-- the first k bytes do not depend on the later ones
taken_same : (xs ys : List ℕ) (k : ℕ) → length xs ≡ length ys → ((j : ℕ) → j < k → get_or xs j 0 ≡ get_or ys j 0) → taken_bytes xs k ≡ taken_bytes ys k
unfolding taken_bytes
taken_same xs ys zero e h = refl
taken_same xs ys (suc k) e h = rw (taken_same xs ys k e (λ j l. h j (omega arith)), h k (omega arith), e)

-- one more byte heard
byte_more : {B : Type 0} {R : B → Levels → Bool → B → Type 0} {s m m' t : B} (xs ys : List ℕ) (i v : ℕ) (b : Bool) → length xs ≡ length ys
    → ((j : ℕ) → j < i → get_or xs j 0 ≡ get_or ys j 0) → get_or ys i 0 ≡ v → eqb (i + 1) (length ys) ≡ b
    → Driven R s (taken_bytes xs i) m → Driven R m (taken_bits v 8) m' → Driven R m' (bit_frame b) t → Driven R s (taken_bytes ys (i + 1)) t
unfolding taken_bytes
byte_more xs ys i v b e h at ends p q z = rw (add-one, ← taken_same xs ys i e h, at, ends) (then p (then q z))

-- ahead of the last, and the last
pub byte_ahead : {B : Type 0} {R : B → Levels → Bool → B → Type 0} {s m m' t : B} (xs : List ℕ) (w i v : ℕ) → i < length xs
    → Driven R s (taken_bytes (xs ++ w ∷ []) i) m → Driven R m (taken_bits v 8) m' → Driven R m' (bit_frame false) t
    → Driven R s (taken_bytes (set xs i v ++ w ∷ []) (i + 1)) t
byte_ahead xs w i v h =
    byte_more (xs ++ w ∷ []) (set xs i v ++ w ∷ []) i v false
    (simp (length-append, length-set))
    (λ j l. grind (arith, common_steps))
    (grind (arith, common_steps))
    (ne_eqb _ _ (simp (length-append, length-set) (omega arith)))

pub byte_last : {B : Type 0} {R : B → Levels → Bool → B → Type 0} {s m m' t : B} (xs : List ℕ) (w i v : ℕ) → i ≡ length xs
    → Driven R s (taken_bytes (xs ++ w ∷ []) i) m → Driven R m (taken_bits v 8) m' → Driven R m' (bit_frame true) t
    → Driven R s (taken_bytes (xs ++ v ∷ []) (length (xs ++ v ∷ []))) t
byte_last {R = R} {s = s} {t = t} xs w i v e p q z =
    subst (λ n. Driven R s (taken_bytes (xs ++ v ∷ []) n) t)
    (simp length-append (omega arith))
    (
    byte_more (xs ++ w ∷ []) (xs ++ v ∷ []) i v true
    (simp length-append)
    (λ j l. grind (arith, common_steps))
    (grind (arith, common_steps))
    (eq-eqb _ _ (simp length-append (omega arith)))
    p
    q
    z
    )
