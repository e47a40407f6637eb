-- The bytes of the settings: at power-up, and after a write.
use Rattle.std.specs.Prelude.{◌≡◌, ℕ, cond, List, map, ◌==◌, bit_and, slice_set}
use Rattle.std.specs.List.{range_with_len}
use Rattle.registers.specs.declared.pins.Level.{Level}
use Rattle.registers.specs.declared.pins.Pins.{Pins}
use Rattle.registers.specs.declared.pins.Strap.{Strap}
use Rattle.registers.specs.declared.pins.Strap.TheVariants.{Low, High, Open}
use Rattle.registers.specs.Pins.{high}
use Rattle.registers.specs.Rows.{mask_of, reset_of}

-- IRNG chooses the current-sense range
abbrev pub range_bits : Strap → ℕ
range_bits Low = 0x02
range_bits High = 0x01
range_bits Open = 0x00

-- HWEN is the bit EN2; EN1 starts at 0
abbrev pub enable_bits : Level → ℕ
enable_bits hwen = cond (high hwen) 0x02 0x00

-- the byte of register n at power-up
abbrev pub first_byte : Pins → ℕ → ℕ
first_byte p n = cond (n == 0x33) (range_bits p.irng) (cond (n == 0x3B) (enable_bits p.hwen) (reset_of n))

unfoldable pub first_bytes : Pins → List ℕ
first_bytes p = map (first_byte p) (range_with_len 0 70)

-- the bytes after a write: the register takes the bits that it keeps
abbrev pub written : List ℕ → ℕ → ℕ → List ℕ
written bytes n byte = slice_set bytes n (bit_and byte (mask_of n))

-- no byte of power-up has a bit that its register does not keep, whatever the pins
abbrev pub ResetsWithin : Type 0
ResetsWithin = (p : Pins) (n : ℕ) → bit_and (first_byte p n) (mask_of n) ≡ first_byte p n
