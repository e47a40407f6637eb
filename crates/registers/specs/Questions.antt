-- What the bytes of the settings say.
use Rattle.std.specs.Prelude.{ℕ, ◌+◌, ◌*◌, ◌/◌, ◌%◌, Bool, cond, List, ◌==◌, nat_lt, slice_index}
use Rattle.samples.specs.declared.ring.Resolution.{Resolution}
use Rattle.samples.specs.declared.ring.Resolution.TheVariants.{Short, Full}
use Rattle.samples.specs.declared.signal.Signal.{Signal}
use Rattle.samples.specs.declared.signal.Signal.TheVariants.{Current, Voltage}
use Rattle.registers.specs.declared.causes.Compare.{Compare}
use Rattle.registers.specs.declared.causes.Compare.TheVariants.{Uv1, Uv2, Ov1, Ov2, Oi}

-- the byte of register n; 0 past the last one
unfoldable pub setting : List ℕ → ℕ → ℕ
setting bytes n = slice_index bytes n

-- the bit of this weight, 1, 2, 4, ..
abbrev pub bit : ℕ → ℕ → Bool
bit weight byte = byte / weight % 2 == 1

-- ten bits in two bytes: the high eight, then the low two, whatever else the second byte has
abbrev pub ten_bits : ℕ → ℕ → ℕ
ten_bits high low = high * 4 + low % 4

-- in the run bits (0x19) and the resolution bits (0x3F): bit 1 current, bit 0 voltage
abbrev pub run_weight : Signal → ℕ
run_weight Current = 2
run_weight Voltage = 1

-- in the reset bits (0x41) and the hold bits (0x42): bit 1 voltage, bit 0 current
abbrev pub peak_weight : Signal → ℕ
peak_weight Current = 1
peak_weight Voltage = 2

abbrev pub runs : List ℕ → Signal → Bool
runs bytes s = bit (run_weight s) (setting bytes 0x19)

-- the resolution bits: 1 means high bytes only
abbrev pub resolution_of : ℕ → Signal → Resolution
resolution_of byte s = cond (bit (run_weight s) byte) Short Full

abbrev pub resolution : List ℕ → Signal → Resolution
resolution bytes s = resolution_of (setting bytes 0x3F) s

abbrev pub resets : List ℕ → Signal → Bool
resets bytes s = bit (peak_weight s) (setting bytes 0x41)

abbrev pub holds : List ℕ → Signal → Bool
holds bytes s = bit (peak_weight s) (setting bytes 0x42)

-- the enables in 0x3B
abbrev pub en1 : List ℕ → Bool
en1 bytes = bit 1 (setting bytes 0x3B)

abbrev pub en2 : List ℕ → Bool
en2 bytes = bit 2 (setting bytes 0x3B)

-- a threshold, in a register and the one after
abbrev pub pair : List ℕ → ℕ → ℕ
pair bytes n = ten_bits (setting bytes n) (setting bytes (n + 1))

abbrev pub threshold : List ℕ → Compare → ℕ
threshold bytes Uv1 = pair bytes 0x1A
threshold bytes Uv2 = pair bytes 0x1C
threshold bytes Ov1 = pair bytes 0x1E
threshold bytes Ov2 = pair bytes 0x20
threshold bytes Oi = pair bytes 0x22

abbrev pub deglitches : List ℕ → Compare → Bool
deglitches bytes Uv1 = bit 1 (setting bytes 0x3D)
deglitches bytes Uv2 = bit 2 (setting bytes 0x3D)
deglitches bytes Ov1 = bit 1 (setting bytes 0x3E)
deglitches bytes Ov2 = bit 2 (setting bytes 0x3E)
deglitches bytes Oi = bit 1 (setting bytes 0x3C)

-- how many ticks a ring goes on after the channel has turned off: 0x40, at most 50
abbrev pub stop_delay : List ℕ → ℕ
stop_delay bytes = cond (nat_lt 50 (setting bytes 0x40)) 50 (setting bytes 0x40)

-- how many good ticks make power-good: by bits 1 and 0 of 0x38
abbrev pub good_delay : List ℕ → ℕ
good_delay bytes =
    cond (setting bytes 0x38 % 4 == 0) 500
    (cond (setting bytes 0x38 % 4 == 1) 1000
    (cond (setting bytes 0x38 % 4 == 2) 2000
    4000))
