-- What the 270 bytes of a report say: seventy registers, then fifty samples of the voltage and fifty of the current.
use Rattle.std.specs.Prelude.{ℕ, ◌+◌, ◌*◌, ◌/◌, Bool, cond, ◌&&◌, List, Some, None, Option, ◌==◌, nat_lt, slice_index}
use Rattle.samples.specs.declared.ring.Resolution.{Resolution}
use Rattle.samples.specs.declared.signal.Signal.{Signal}
use Rattle.samples.specs.declared.signal.Signal.TheVariants.{Current, Voltage}
use Rattle.registers.specs.declared.causes.Trip.TheVariants.{Fast, Slow}
use Rattle.registers.specs.declared.causes.Compare.TheVariants.{Uv1, Uv2, Ov1, Ov2, Oi}
use Rattle.registers.specs.declared.causes.Cause.{Cause}
use Rattle.registers.specs.declared.causes.Cause.TheVariants as cause
use Rattle.registers.specs.declared.pins.Strap.{Strap}
use Rattle.registers.specs.declared.pins.Strap.TheVariants.{Low, High, Open}
use Rattle.registers.specs.Questions.{bit, resolution_of, ten_bits}
use Rattle.registers.specs.Rows.{listed}

-- ten bits in a register and the one after
abbrev pub pair_in : List ℕ → ℕ → ℕ
pair_in bytes n = ten_bits (slice_index bytes n) (slice_index bytes (n + 1))

-- the first register of a signal's latest sample
abbrev pub latest_place : Signal → ℕ
latest_place Current = 0x00
latest_place Voltage = 0x02

abbrev pub smallest_place : Signal → ℕ
smallest_place Current = 0x08
smallest_place Voltage = 0x0C

abbrev pub largest_place : Signal → ℕ
largest_place Current = 0x0A
largest_place Voltage = 0x0E

abbrev pub latest_in : List ℕ → Signal → ℕ
latest_in bytes s = pair_in bytes (latest_place s)

-- the extremes cover no sample: the smallest is the greatest sample, and the largest the least
abbrev pub none_in : List ℕ → Signal → Bool
none_in bytes s = pair_in bytes (smallest_place s) == 1023 && pair_in bytes (largest_place s) == 0

abbrev pub smallest_in : List ℕ → Signal → Option ℕ
smallest_in bytes s = cond (none_in bytes s) None (Some (pair_in bytes (smallest_place s)))

abbrev pub largest_in : List ℕ → Signal → Option ℕ
largest_in bytes s = cond (none_in bytes s) None (Some (pair_in bytes (largest_place s)))

abbrev pub register_in : List ℕ → ℕ → Option ℕ
register_in bytes n = cond (nat_lt n 70) (Some (slice_index bytes n)) None

abbrev pub setting_in : List ℕ → ℕ → Option ℕ
setting_in bytes n = cond (listed n) (Some (slice_index bytes n)) None

-- logged: trips in 0x31, undervoltage in 0x35, overvoltage in 0x36, overcurrent in 0x37
abbrev pub cause_in : List ℕ → Cause → Bool
cause_in bytes (cause.Trip Fast) = bit 1 (slice_index bytes 0x31)
cause_in bytes (cause.Trip Slow) = bit 16 (slice_index bytes 0x31)
cause_in bytes (cause.Compare Uv1) = bit 1 (slice_index bytes 0x35)
cause_in bytes (cause.Compare Uv2) = bit 16 (slice_index bytes 0x35)
cause_in bytes (cause.Compare Ov1) = bit 1 (slice_index bytes 0x36)
cause_in bytes (cause.Compare Ov2) = bit 16 (slice_index bytes 0x36)
cause_in bytes (cause.Compare Oi) = bit 1 (slice_index bytes 0x37)

-- ON is high
abbrev pub on_in : List ℕ → Bool
on_in bytes = bit 1 (slice_index bytes 0x32)

-- POL is high
abbrev pub pol_in : List ℕ → Bool
pol_in bytes = bit 32 (slice_index bytes 0x34)

-- power is good
abbrev pub good_in : List ℕ → Bool
good_in bytes = bit 1 (slice_index bytes 0x34)

-- PROT, in the two high bits; both set name no level
abbrev pub prot_in : List ℕ → Option Strap
prot_in bytes =
    cond (slice_index bytes 0x32 / 64 == 0) (Some Low)
    (cond (slice_index bytes 0x32 / 64 == 1) (Some High)
    (cond (slice_index bytes 0x32 / 64 == 2) (Some Open)
    None))

abbrev pub resolution_in : List ℕ → Signal → Resolution
resolution_in bytes s = resolution_of (slice_index bytes 0x3F) s

-- where the samples of a signal begin
abbrev pub ring_place : Signal → ℕ
ring_place Voltage = 70
ring_place Current = 170

-- sixteen bits in two bytes, the high one first
abbrev pub word_in : List ℕ → ℕ → ℕ
word_in bytes n = slice_index bytes n * 256 + slice_index bytes (n + 1)

-- sample k of a signal, the oldest at 0
abbrev pub sample_in : List ℕ → Signal → ℕ → Option ℕ
sample_in bytes s k = cond (nat_lt k 50) (Some (word_in bytes (ring_place s + 2 * k))) None
