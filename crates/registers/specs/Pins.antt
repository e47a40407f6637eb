-- Levels, the address that the straps choose, and the pins of the payload bay's part.
use Rattle.std.specs.Prelude.{ℕ, Bool, true, false, List, [], ◌∷◌}
use Rattle.registers.specs.declared.pins.Level.{Level}
use Rattle.registers.specs.declared.pins.Level.TheVariants as level
use Rattle.registers.specs.declared.pins.Pins.{Pins}
use Rattle.registers.specs.declared.pins.Strap.{Strap}
use Rattle.registers.specs.declared.pins.Strap.TheVariants.{Low, High, Open}

abbrev pub high : Level → Bool
high level.Low = false
high level.High = true

abbrev pub level_of : Bool → Level
level_of false = level.Low
level_of true = level.High

-- low, high
abbrev pub level_text : Level → List ℕ
level_text level.Low = 108 ∷ 111 ∷ 119 ∷ []
level_text level.High = 104 ∷ 105 ∷ 103 ∷ 104 ∷ []

-- low, high, open
abbrev pub strap_text : Strap → List ℕ
strap_text Low = 108 ∷ 111 ∷ 119 ∷ []
strap_text High = 104 ∷ 105 ∷ 103 ∷ 104 ∷ []
strap_text Open = 111 ∷ 112 ∷ 101 ∷ 110 ∷ []

-- by A1, then A0
abbrev pub address_of : Strap → Strap → ℕ
address_of Low Low = 0x3A
address_of Low High = 0x39
address_of Low Open = 0x38
address_of High Low = 0x36
address_of High High = 0x35
address_of High Open = 0x34
address_of Open Low = 0x32
address_of Open High = 0x31
address_of Open Open = 0x30

-- HWEN and ON high, POL low, PROT low, IRNG open, at address 0x3A
abbrev pub bay : Pins
bay = record { on = level.High; hwen = level.High; pol = level.Low; prot = Low; irng = Open; a1 = Low; a0 = Low }
