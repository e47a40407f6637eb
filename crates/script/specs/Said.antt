-- What a line that was read says of its bytes, and laws of every line.
use Rattle.std.specs.Prelude.{◌≡◌, ℕ, ◌+◌, List, [], ◌∷◌, ◌++◌, length}
use Rattle.script.specs.declared.class.Class.TheVariants.{Bit, Hex}
use Rattle.script.specs.declared.line.Field.{Field}
use Rattle.script.specs.declared.line.Line.{Line}
use Rattle.script.specs.declared.line.Line.TheVariants.{Tick, On, Pol, Fast, Slow, Write, Get, Read}
use Rattle.script.specs.Grammar.{one, number, Spells, Matches, Right, WrongOf}

abbrev pub text : Field → List ℕ
text f = f.text.now

-- the bytes that the fields stand in
abbrev pub spelling : Line → List ℕ
spelling (Tick current voltage) = 84 ∷ 32 ∷ (text current ++ (32 ∷ text voltage))
spelling (On level) = 79 ∷ 32 ∷ text level
spelling (Pol level) = 76 ∷ 32 ∷ text level
spelling Fast = 70 ∷ []
spelling Slow = 83 ∷ []
spelling (Write register byte) = 87 ∷ 32 ∷ (text register ++ (32 ∷ text byte))
spelling (Get register) = 71 ∷ 32 ∷ text register
spelling Read = 82 ∷ []

-- each field has a text of its kind
abbrev pub Spelled : Line → Type 0
Spelled (Tick current voltage) = Spells number (text current) × Spells number (text voltage)
Spelled (On level) = Spells (one Bit) (text level)
Spelled (Pol level) = Spells (one Bit) (text level)
Spelled Fast = Unit {0}
Spelled Slow = Unit {0}
Spelled (Write register byte) = Matches (one Hex ∷ one Hex ∷ []) (text register) × Matches (one Hex ∷ one Hex ∷ []) (text byte)
Spelled (Get register) = Matches (one Hex ∷ one Hex ∷ []) (text register)
Spelled Read = Unit {0}

-- each field has its column
abbrev pub Placed : Line → Type 0
Placed (Tick current voltage) = (current.column ≡ 3) × (voltage.column ≡ length (text current) + 4)
Placed (On level) = level.column ≡ 3
Placed (Pol level) = level.column ≡ 3
Placed Fast = Unit {0}
Placed Slow = Unit {0}
Placed (Write register byte) = (register.column ≡ 3) × (byte.column ≡ 6)
Placed (Get register) = register.column ≡ 3
Placed Read = Unit {0}

abbrev pub Said : Line → List ℕ → Type 0
Said l line = (line ≡ spelling l) × Spelled l × Placed l

-- what was read is a right line
abbrev pub SaidIsRight : Type 0
SaidIsRight = (l : Line) (line : List ℕ) → Said l line → Right line

-- of right lines of either kind: a line has one wrong column at most
abbrev pub OneColumn : (List ℕ → Type 0) → Type 0
OneColumn right = (line : List ℕ) (c d : ℕ) → WrongOf right line c → WrongOf right line d → c ≡ d

-- and a right one has none
abbrev pub RightNotWrong : (List ℕ → Type 0) → Type 0
RightNotWrong right = (line : List ℕ) (c : ℕ) → WrongOf right line c → right line → ⊥
