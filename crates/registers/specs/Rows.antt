-- The settings: each register with the bits that a write keeps and its byte at power-up, leaving out what the pins decide.
use Rattle.std.specs.Prelude.{ℕ, Bool, true, false, cond, List, [], ◌∷◌, ◌==◌}

pub record Row : Type 0 where
  pub register : ℕ
  pub mask : ℕ
  pub reset : ℕ

abbrev pub row : ℕ → ℕ → ℕ → Row
row n m r = record { register = n; mask = m; reset = r }

abbrev pub rows : List Row
rows =
    row 0x18 0x0F 0x00 ∷
    row 0x19 0x0F 0x0F ∷
    row 0x1A 0xFF 0x00 ∷
    row 0x1B 0x03 0x00 ∷
    row 0x1C 0xFF 0x00 ∷
    row 0x1D 0x03 0x00 ∷
    row 0x1E 0xFF 0xFF ∷
    row 0x1F 0x03 0x03 ∷
    row 0x20 0xFF 0xFF ∷
    row 0x21 0x03 0x03 ∷
    row 0x22 0xFF 0xFF ∷
    row 0x23 0x03 0x03 ∷
    row 0x2E 0xFF 0xBF ∷
    row 0x30 0x0F 0x0F ∷
    row 0x33 0x0F 0x00 ∷
    row 0x38 0x0F 0x00 ∷
    row 0x39 0xFF 0x00 ∷
    row 0x3B 0x0F 0x00 ∷
    row 0x3C 0x03 0x00 ∷
    row 0x3D 0x0F 0x00 ∷
    row 0x3E 0x0F 0x00 ∷
    row 0x3F 0x0F 0x0F ∷
    row 0x40 0x3F 0x19 ∷
    row 0x41 0x0F 0x00 ∷
    row 0x42 0x0F 0x00 ∷
    row 0x43 0xFF 0x0F ∷
    row 0x44 0xFF 0x00 ∷
    []

-- what the rows say of a register, or what holds of one that has no row
abbrev pub in_rows : {X : Type 0} → (Row → X) → X → List Row → ℕ → X
in_rows say none [] n = none
in_rows say none (r ∷ rs) n = cond (n == r.register) (say r) (in_rows say none rs n)

-- the bits that a write keeps
unfoldable pub mask_of : ℕ → ℕ
mask_of n = in_rows (λ r. r.mask) 0 rows n

unfoldable pub reset_of : ℕ → ℕ
reset_of n = in_rows (λ r. r.reset) 0 rows n

-- the register is a setting
unfoldable pub listed : ℕ → Bool
listed n = in_rows (λ r. true) false rows n
