-- Numbers and flags back from the bytes that show them.
use Rattle.std.proofs.Common.{◌≡◌, ℕ, ◌+◌, ◌*◌, ◌/◌, ◌%◌, Bool, true, false, cond, eqb, Some, None, Option, refl, arith}
use Rattle.registers.specs.declared.pins.Level.{Level}
use Rattle.registers.specs.declared.pins.Level.TheVariants as level
use Rattle.registers.specs.declared.pins.Strap.{Strap}
use Rattle.registers.specs.declared.pins.Strap.TheVariants.{Low, High, Open}
use Rattle.registers.specs.Pins.{high, level_of}
use Rattle.registers.specs.Causes.{weight}
use Rattle.registers.specs.Questions.{bit}
use Rattle.part.specs.Shown.{prot_bits}

-- ten bits by the high eight and the low two
pub pair_back : (x a b : ℕ) → a ≡ x / 4 → b ≡ x % 4 → a * 4 + b % 4 ≡ x
pair_back x a b h l = omega arith

-- flags at 16 and 1
pub high_flag : (a b : Bool) → bit 16 (weight a 16 + weight b 1) ≡ a
high_flag true true = refl
high_flag true false = refl
high_flag false true = refl
high_flag false false = refl

pub low_flag : (a b : Bool) → bit 1 (weight a 16 + weight b 1) ≡ b
low_flag true true = refl
low_flag true false = refl
low_flag false true = refl
low_flag false false = refl

pub one_flag : (a : Bool) → bit 1 (weight a 1) ≡ a
one_flag true = refl
one_flag false = refl

-- flags at 32, 16 and 1
pub first_flag : (a b c : Bool) → bit 32 (weight a 32 + weight b 16 + weight c 1) ≡ a
first_flag true true true = refl
first_flag true true false = refl
first_flag true false true = refl
first_flag true false false = refl
first_flag false true true = refl
first_flag false true false = refl
first_flag false false true = refl
first_flag false false false = refl

pub last_flag : (a b c : Bool) → bit 1 (weight a 32 + weight b 16 + weight c 1) ≡ c
last_flag true true true = refl
last_flag true true false = refl
last_flag true false true = refl
last_flag true false false = refl
last_flag false true true = refl
last_flag false true false = refl
last_flag false false true = refl
last_flag false false false = refl

-- PROT and ON
abbrev pub prot_of : ℕ → Option Strap
prot_of byte = cond (eqb (byte / 64) 0) (Some Low) (cond (eqb (byte / 64) 1) (Some High) (cond (eqb (byte / 64) 2) (Some Open) None))

pub prot_back : (s : Strap) (b : Bool) → prot_of (prot_bits s + weight b 1) ≡ Some s
prot_back Low true = refl
prot_back Low false = refl
prot_back High true = refl
prot_back High false = refl
prot_back Open true = refl
prot_back Open false = refl

pub on_back : (s : Strap) (b : Bool) → bit 1 (prot_bits s + weight b 1) ≡ b
on_back Low true = refl
on_back Low false = refl
on_back High true = refl
on_back High false = refl
on_back Open true = refl
on_back Open false = refl

pub level_back : (l : Level) → level_of (high l) ≡ l
level_back level.Low = refl
level_back level.High = refl
