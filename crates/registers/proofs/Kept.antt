-- Power-up and writes keep every byte within its mask, and so below 256.
use Rattle.std.proofs.Common.{◌≡◌, ℕ, ◌/◌, ◌%◌, ◌<◌, ◌≤◌, min, true, eqb, leb, ◌≢◌, List, [], ◌∷◌, length, get_or, set, refl, ap, ◌∙◌, subst, ⊎_elim, arith, lit≤}
use lib.Arith.{bin_ind}
use lib.Bits.{bit_and, and_step}
use Rattle.std.proofs.lemmas.Nat.{and_le_r}
use Rattle.std.proofs.lemmas.List.FromFn.{get_or-map-range_with_len}
use Rattle.std.proofs.lemmas.List.{get_or-set_same, get_or-set_other}
use Rattle.std.proofs.lemmas.Bool.{cases_eq, cond_both, and_parts, leb-true}
use Rattle.registers.specs.declared.pins.Pins.{Pins}
use Rattle.registers.specs.Rows.{Row, rows, in_rows, mask_of}
use Rattle.registers.specs.Held.{Held}
use Rattle.registers.specs.Questions.{setting}
use Rattle.registers.specs.Settings.{first_byte, first_bytes}
use Rattle.registers.proofs.Tables.{all_rows, resets_within}

-- a byte once cut to its mask is cut by it no further
and_again : (a m : ℕ) → bit_and (bit_and a m) m ≡ bit_and a m
and_again =
    bin_ind (λ (n : ℕ). (m : ℕ) → bit_and (bit_and n m) m ≡ bit_and n m) (λ m. refl)
    (λ n ih m.
    let s = and_step n m in
    let b : min (n % 2) (m % 2) < 2 = omega arith in
    let half : bit_and n m / 2 ≡ bit_and (n / 2) (m / 2) = omega arith in
    let bit : bit_and n m % 2 ≡ min (n % 2) (m % 2) = omega arith in
    let top : bit_and (bit_and n m / 2) (m / 2) ≡ bit_and (n / 2) (m / 2) = ap (λ x. bit_and x (m / 2)) half ∙ ih (m / 2) in
    let low : min (bit_and n m % 2) (m % 2) ≡ min (n % 2) (m % 2) = omega arith in
    let t = and_step (bit_and n m) m in
    omega arith)

pub held_written : (bytes : List ℕ) (k byte : ℕ) → length bytes ≡ 70 → k < 70 → Held bytes → Held (set bytes k (bit_and byte (mask_of k)))
held_written bytes k byte l h all n low =
    ⊎_elim
    (λ (same : n ≡ k).
    let inside : k < length bytes = omega arith in
    let e : get_or (set bytes k (bit_and byte (mask_of k))) k 0 ≡ bit_and byte (mask_of k) = get_or-set_same bytes k (bit_and byte (mask_of k)) 0 inside in
    rw (same, e) (and_again byte (mask_of k)))
    (λ other.
    let ne : n ≢ k = other in
    let e : get_or (set bytes k (bit_and byte (mask_of k))) n 0 ≡ get_or bytes n 0 = get_or-set_other bytes k n (bit_and byte (mask_of k)) 0 ne in
    rw e (all n low))
    (cases_eq n k)

pub held_first : (p : Pins) (bytes : List ℕ) → bytes ≡ first_bytes p → Held bytes
unfolding first_bytes
held_first p bytes is n low =
    let e : get_or bytes n 0 ≡ first_byte p n = ap (λ xs. get_or xs n 0) is ∙ get_or-map-range_with_len (first_byte p) 0 70 n n 0 low (omega arith) in
    rw e (resets_within p n)

-- every mask is a byte, so every byte held is one
mask_rows : (rs : List Row) → all_rows (λ r. leb r.mask 255) rs ≡ true → (n : ℕ) → in_rows (λ r. r.mask) 0 rs n ≤ 255
mask_rows [] t n = lit≤ tt
mask_rows (r ∷ rs) t n =
    let parts = and_parts (leb r.mask 255) (all_rows (λ r. leb r.mask 255) rs) t in
    cond_both (eqb n r.register) r.mask (in_rows (λ r. r.mask) 0 rs n) (λ x. x ≤ 255) (λ _. leb-true r.mask 255 parts.0) (λ _. mask_rows rs parts.1 n)

mask_fits : (n : ℕ) → mask_of n ≤ 255
unfolding mask_of
mask_fits n = mask_rows rows refl n

pub setting_fits : (bytes : List ℕ) → Held bytes → (n : ℕ) → n < 70 → setting bytes n < 256
unfolding setting
setting_fits bytes held n low =
    let cut : get_or bytes n 0 ≤ mask_of n = subst (λ (x : ℕ). x ≤ mask_of n) (held n low) (and_le_r (get_or bytes n 0) (mask_of n)) in
    omega (arith, mask_fits n)
