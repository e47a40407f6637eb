-- What the part shows: its registers and its output pins.
use Rattle.std.specs.Prelude.{◌≡◌, ℕ, ◌+◌, ◌/◌, ◌%◌, ◌<◌, cond, not, Some, None, Option, ◌==◌, nat_lt}
use Rattle.registers.specs.declared.pins.Strap.{Strap}
use Rattle.registers.specs.declared.pins.Strap.TheVariants.{Low, High, Open}
use Rattle.registers.specs.declared.pins.Pins.{Pins}
use Rattle.registers.specs.Pins.{high, level_of}
use Rattle.registers.specs.Questions.{setting}
use Rattle.registers.specs.Settings.{first_byte}
use Rattle.part.specs.declared.Outputs.{Outputs}
use Rattle.registers.specs.Causes.{weight, trip_byte, under_byte, over_byte, current_byte, tripped, alerted}
use Rattle.part.specs.Model.{Model}

-- PROT in bits 7 and 6
abbrev pub prot_bits : Strap → ℕ
prot_bits Low = 0x00
prot_bits High = 0x40
prot_bits Open = 0x80

-- 0x32: PROT, and ON in bit 0
abbrev pub input_byte : Model → ℕ
input_byte m = prot_bits m.pins.prot + weight (high m.pins.on) 0x01

-- 0x34: POL in bit 5, ALERT in bit 4, power-good in bit 0
abbrev pub status_byte : Model → ℕ
status_byte m = weight (high m.pins.pol) 0x20 + weight (alerted m.logs) 0x10 + weight m.good 0x01

-- the byte that register n shows; a sample is its high eight bits and then its low two
abbrev pub byte_of : Model → ℕ → ℕ
byte_of m n =
    cond (n == 0x00) (m.current.latest / 4)
    (cond (n == 0x01) (m.current.latest % 4)
    (cond (n == 0x02) (m.voltage.latest / 4)
    (cond (n == 0x03) (m.voltage.latest % 4)
    (cond (n == 0x08) (m.current.smallest / 4)
    (cond (n == 0x09) (m.current.smallest % 4)
    (cond (n == 0x0A) (m.current.largest / 4)
    (cond (n == 0x0B) (m.current.largest % 4)
    (cond (n == 0x0C) (m.voltage.smallest / 4)
    (cond (n == 0x0D) (m.voltage.smallest % 4)
    (cond (n == 0x0E) (m.voltage.largest / 4)
    (cond (n == 0x0F) (m.voltage.largest % 4)
    (cond (n == 0x31) (trip_byte m.logs)
    (cond (n == 0x32) (input_byte m)
    (cond (n == 0x34) (status_byte m)
    (cond (n == 0x35) (under_byte m.logs)
    (cond (n == 0x36) (over_byte m.logs)
    (cond (n == 0x37) (current_byte m.logs)
    (setting m.settings n))))))))))))))))))

unfoldable pub shown : Model → ℕ → ℕ
shown m n = byte_of m n

-- every number is answered: from 0x46 on there is no register
abbrev pub register : Model → ℕ → Option ℕ
register m n = cond (nat_lt n 70) (Some (shown m n)) None

-- FAULT and ALERT are low when asserted; PG equals power-good when POL is 1, else its opposite
unfoldable pub outputs : Model → Outputs
outputs m =
    record {
      fault = level_of (not (tripped m.logs));
      alert = level_of (not (alerted m.logs));
      pg = level_of (cond (high m.pins.pol) m.good (not m.good));
    }

-- what power-up leaves to see: the smallest of both signals at full scale, PROT, ON and POL, the settings, and 0 elsewhere
abbrev pub first_shown : Pins → ℕ → ℕ
first_shown p n =
    cond (n == 0x08) 0xFF
    (cond (n == 0x09) 0x03
    (cond (n == 0x0C) 0xFF
    (cond (n == 0x0D) 0x03
    (cond (n == 0x32) (prot_bits p.prot + weight (high p.on) 0x01)
    (cond (n == 0x34) (weight (high p.pol) 0x20)
    (first_byte p n))))))

-- every register of the part is as power-up leaves it
abbrev pub PoweredUp : Model → Pins → Type 0
PoweredUp m p = (n : ℕ) → n < 70 → shown m n ≡ first_shown p n
