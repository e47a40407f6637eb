-- The right lines of a script, and the first column where a line is wrong.
use Rattle.std.specs.Prelude.{◌≡◌, ℕ, ◌+◌, ◌<◌, ◌≤◌, Bool, true, cond, ◌&&◌, ◌||◌, List, [], ◌∷◌, ◌++◌, length, take, Some, None, Option, ◌==◌, nat_le}
use Rattle.std.specs.Str.Parse.{digits_value}
use Rattle.script.specs.declared.class.Class.{Class}
use Rattle.script.specs.declared.class.Class.TheVariants.{Space, Bit, Digit, Hex}

-- the bytes of each class; the letters of hexadecimal digits are capitals
abbrev pub admits : Class → ℕ → Bool
admits Space b = b == 32
admits Bit b = b == 48 || b == 49
admits Digit b = nat_le 48 b && nat_le b 57
admits Hex b = (nat_le 48 b && nat_le b 57) || (nat_le 65 b && nat_le b 70)

-- a part of a line: one byte of a class, or a number of one to four digits
pub data Part : Type 0 where
  one : Class → Part
  number : Part

-- what follows each letter: T, O, L, F, S, W, G and R
abbrev pub rule : ℕ → Option (List Part)
rule b =
    cond (b == 84) (Some (one Space ∷ number ∷ one Space ∷ number ∷ []))
    (cond (b == 79) (Some (one Space ∷ one Bit ∷ []))
    (cond (b == 76) (Some (one Space ∷ one Bit ∷ []))
    (cond (b == 70) (Some [])
    (cond (b == 83) (Some [])
    (cond (b == 87) (Some (one Space ∷ one Hex ∷ one Hex ∷ one Space ∷ one Hex ∷ one Hex ∷ []))
    (cond (b == 71) (Some (one Space ∷ one Hex ∷ one Hex ∷ []))
    (cond (b == 82) (Some [])
    None)))))))

abbrev pub Digits : List ℕ → Type 0
Digits [] = Unit {0}
Digits (b ∷ bs) = (admits Digit b ≡ true) × Digits bs

-- t is a text of the part
abbrev pub Spells : Part → List ℕ → Type 0
Spells (one c) t = (b : ℕ) × (t ≡ b ∷ []) × (admits c b ≡ true)
Spells number t = (1 ≤ length t) × (length t ≤ 4) × Digits t

-- the bytes are texts of the parts, one after another, and nothing more
abbrev pub Matches : List Part → List ℕ → Type 0
Matches [] bytes = bytes ≡ []
Matches (p ∷ ps) bytes = (t : List ℕ) × (rest : List ℕ) × (bytes ≡ t ++ rest) × Spells p t × Matches ps rest

-- a right line: a letter, and what its rule wants
pub record Right (line : List ℕ) : Type 0 where
  pub letter : ℕ
  pub parts : List Part
  pub rest : List ℕ
  pub whole : line ≡ letter ∷ rest
  pub ruled : rule letter ≡ Some parts
  pub matches : Matches parts rest

-- a right first line: `B`, a space, and a number of 255 at most
pub record FirstRight (line : List ℕ) : Type 0 where
  pub digits : List ℕ
  pub whole : line ≡ 66 ∷ 32 ∷ digits
  pub spelled : Spells number digits
  pub small : digits_value 10 digits ≤ 255

-- some right line begins so
abbrev pub Begins : (List ℕ → Type 0) → List ℕ → Type 0
Begins right front = (more : List ℕ) × right (front ++ more)

-- column c, counted from 1, is the first where the line so far begins no right line, or one past its end where it only stops short
pub record FirstWrong (right : List ℕ → Type 0) (line : List ℕ) (c : ℕ) : Type 0 where
  pub within : c ≤ length line + 1
  pub before : (k : ℕ) → k < c → Begins right (take k line)
  pub here : c ≤ length line → Begins right (take c line) → ⊥
  pub short : right line → ⊥

-- a line of more than 16 bytes is wrong at column 17, whatever stands before
abbrev pub WrongOf : (List ℕ → Type 0) → List ℕ → ℕ → Type 0
WrongOf right line c = (16 < length line → c ≡ 17) × (length line ≤ 16 → FirstWrong right line c)

abbrev pub Wrong : List ℕ → ℕ → Type 0
Wrong line c = WrongOf Right line c

abbrev pub FirstLineWrong : List ℕ → ℕ → Type 0
FirstLineWrong line c = WrongOf FirstRight line c
