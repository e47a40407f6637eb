-- No byte has a bit that its register does not keep.
use Rattle.std.specs.Prelude.{◌≡◌, ℕ, ◌<◌, List, bit_and, slice_index}
use Rattle.registers.specs.Rows.{mask_of}

abbrev pub Held : List ℕ → Type 0
Held bytes = (n : ℕ) → n < 70 → bit_and (slice_index bytes n) (mask_of n) ≡ slice_index bytes n
