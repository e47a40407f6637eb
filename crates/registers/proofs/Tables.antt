-- A table with an entry for each register, and the rows that say what stands there.
use Rattle.std.proofs.Common.{◌≡◌, ℕ, ◌<◌, ◌≤◌, Bool, true, false, cond, ◌&&◌, eqb, ltb, List, [], ◌∷◌, map, get_or, set, sym, refl, ◌∙◌, ⊎_elim, arith}
use mathlib.Core.Path.{subst⁻¹}
use lib.Bits.{bit_and}
use Rattle.std.specs.List.{range_with_len}
use Rattle.std.proofs.lemmas.List.FromFn.{get_or-map-range_with_len, length-map-range_with_len}
use Rattle.std.proofs.lemmas.List.{get_or_past}
use Rattle.std.proofs.lemmas.Bool.{cases_lt, cases_eq, and_parts, ltb-true, eqb-true, ne_eqb}
use Rattle.registers.specs.declared.pins.Pins.{Pins}
use Rattle.registers.specs.declared.pins.Level.{Level}
use Rattle.registers.specs.declared.pins.Level.TheVariants as level
use Rattle.registers.specs.declared.pins.Strap.{Strap}
use Rattle.registers.specs.declared.pins.Strap.TheVariants.{Low, High, Open}
use Rattle.registers.specs.Rows.{Row, rows, in_rows, mask_of, reset_of}
use Rattle.registers.specs.Settings.{range_bits, enable_bits, first_byte, first_bytes, ResetsWithin}

-- every row stands below the count of registers
abbrev pub all_rows : (Row → Bool) → List Row → Bool
all_rows test [] = true
all_rows test (r ∷ rs) = test r && all_rows test rs

none_past : {X : Type 0} (say : Row → X) (none : X) (rs : List Row) → all_rows (λ r. ltb r.register 70) rs ≡ true → (k : ℕ) → 70 ≤ k → in_rows say none rs k ≡ none
none_past say none [] t k h = refl
none_past say none (r ∷ rs) t k h =
    let parts = and_parts (ltb r.register 70) (all_rows (λ r. ltb r.register 70) rs) t in
    let low : r.register < 70 = ltb-true r.register 70 parts.0 in
    let other : eqb k r.register ≡ false = ne_eqb k r.register (λ e. omega arith) in
    rw other (none_past say none rs parts.1 k h)

-- a table that is made from the rows has their word at every register, and none past its end
pub table_at : (say : Row → ℕ) (k : ℕ) → get_or (map (in_rows say 0 rows) (range_with_len 0 70)) k 0 ≡ in_rows say 0 rows k
table_at say k =
    ⊎_elim
    (λ (low : k < 70). get_or-map-range_with_len (in_rows say 0 rows) 0 70 k k 0 low (omega arith))
    (λ (past : 70 ≤ k). get_or_past (map (in_rows say 0 rows) (range_with_len 0 70)) k 0 (omega (arith, length-map-range_with_len (in_rows say 0 rows) 0 70)) ∙ sym (none_past say 0 rows refl k past))
    (cases_lt k 70)

-- no row has a reset bit that it does not keep
within_rows : (rs : List Row) → all_rows (λ r. eqb (bit_and r.reset r.mask) r.reset) rs ≡ true → (n : ℕ) → bit_and (in_rows (λ r. r.reset) 0 rs n) (in_rows (λ r. r.mask) 0 rs n) ≡ in_rows (λ r. r.reset) 0 rs n
within_rows [] t n = refl
within_rows (r ∷ rs) t n =
    let parts = and_parts (eqb (bit_and r.reset r.mask) r.reset) (all_rows (λ r. eqb (bit_and r.reset r.mask) r.reset) rs) t in
    let here = eqb-true (bit_and r.reset r.mask) r.reset parts.0 in
    let rest = within_rows rs parts.1 n in
    elim (eqb n r.register)
    as (λ b. bit_and (cond b r.reset (in_rows (λ r. r.reset) 0 rs n)) (cond b r.mask (in_rows (λ r. r.mask) 0 rs n)) ≡ cond b r.reset (in_rows (λ r. r.reset) 0 rs n))
    [ true ↦ here | false ↦ rest ]

range_within : (s : Strap) → bit_and (range_bits s) (mask_of 0x33) ≡ range_bits s
unfolding mask_of
range_within Low = refl
range_within High = refl
range_within Open = refl

enable_within : (l : Level) → bit_and (enable_bits l) (mask_of 0x3B) ≡ enable_bits l
unfolding mask_of
enable_within level.Low = refl
enable_within level.High = refl

reset_within : (n : ℕ) → bit_and (reset_of n) (mask_of n) ≡ reset_of n
unfolding mask_of reset_of
reset_within n = within_rows rows refl n

pub resets_within : ResetsWithin
resets_within p n =
    let Within : ℕ → Type 0 = λ m. bit_and (first_byte p m) (mask_of m) ≡ first_byte p m in
    ⊎_elim
    (λ (is : n ≡ 0x33). subst⁻¹ Within is (range_within p.irng))
    (λ other.
    ⊎_elim
    (λ (is : n ≡ 0x3B). subst⁻¹ Within is (enable_within p.hwen))
    (λ neither.
    let a : eqb n 0x33 ≡ false = ne_eqb n 0x33 other in
    let b : eqb n 0x3B ≡ false = ne_eqb n 0x3B neither in
    rw (a, b) (reset_within n))
    (cases_eq n 0x3B))
    (cases_eq n 0x33)

-- the reset table with what the pins decide written into it
pub filled_in : (p : Pins) (range enables : ℕ) → range ≡ range_bits p.irng → enables ≡ enable_bits p.hwen → set (set (map reset_of (range_with_len 0 70)) 0x33 range) 0x3B enables ≡ first_bytes p
unfolding reset_of first_bytes
filled_in p range enables a b = rw (a, b)
