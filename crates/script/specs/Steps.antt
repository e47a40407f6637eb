-- What the steps of the reader promise. Each is over what is left of the line, r; mostly it makes a field f and leaves r'.
use Rattle.std.specs.Prelude.{◌≡◌, ℕ, zero, suc, ◌+◌, ◌<◌, true, cond, List, [], ◌∷◌, ◌++◌, length, take, drop, Some, None, Option, ◌==◌, slice_index}
use Rattle.script.specs.declared.class.Class.{Class}
use Rattle.script.specs.declared.class.Class.TheVariants.{Digit, Hex}
use Rattle.script.specs.declared.class.Class.TheVariants as class
use Rattle.script.specs.declared.kind.Kind.{Kind}
use Rattle.script.specs.declared.kind.Kind.TheVariants.{Bit, Number, Byte}
use Rattle.script.specs.declared.line.Field.{Field}
use Rattle.script.specs.declared.rest.Rest.{Rest}
use Rattle.script.specs.Grammar.{admits, Part, one, number, Matches}

-- how many digits the bytes begin with, n at most
abbrev pub run : ℕ → List ℕ → ℕ
run zero bs = 0
run (suc n) [] = 0
run (suc n) (b ∷ bs) = cond (admits Digit b) (suc (run n bs)) 0

-- where bytes that should match the parts go wrong, if the first of them has column k
abbrev pub wrong_at : List Part → ℕ → List ℕ → Option ℕ
wrong_at [] k [] = None
wrong_at [] k (b ∷ bs) = Some k
wrong_at (one c ∷ ps) k [] = Some k
wrong_at (one c ∷ ps) k (b ∷ bs) = cond (admits c b) (wrong_at ps (k + 1) bs) (Some k)
wrong_at (number ∷ ps) k bs = cond (run 4 bs == 0) (Some k) (wrong_at ps (k + run 4 bs) (drop (run 4 bs) bs))

-- where what is left of a line goes wrong
abbrev pub wrong_in : List Part → Rest → Option ℕ
wrong_in ps r = wrong_at ps r.column r.bytes.now

-- one byte of the class was passed
pub record Passed (c : Class) (r r' : Rest) : Type 0 where
  pub first : admits c (slice_index r.bytes.now 0) ≡ true
  pub cut : r.bytes.now ≡ slice_index r.bytes.now 0 ∷ r'.bytes.now
  pub moved : r'.column ≡ r.column + 1
  pub left : length r.bytes.now ≡ length r'.bytes.now + 1

-- a number was passed, and its field made
pub record Counted (r : Rest) (f : Field) (r' : Rest) : Type 0 where
  pub some : 0 < run 4 r.bytes.now
  pub front : f.text.now ≡ take (run 4 r.bytes.now) r.bytes.now
  pub cut : r'.bytes.now ≡ drop (run 4 r.bytes.now) r.bytes.now
  pub placed : f.column ≡ r.column
  pub moved : r'.column ≡ r.column + run 4 r.bytes.now
  pub left : length r.bytes.now ≡ length r'.bytes.now + run 4 r.bytes.now

-- whatever should follow the part, the bytes go wrong at their first
pub record Fails (p : Part) (r : Rest) (c : ℕ) : Type 0 where
  pub column : c ≡ r.column
  pub fails : (ps : List Part) → wrong_in (p ∷ ps) r ≡ Some r.column

-- two hexadecimal digits were passed, and their field made
pub record Paired (r : Rest) (f : Field) (r' : Rest) : Type 0 where
  pub spelled : Matches (one Hex ∷ one Hex ∷ []) f.text.now
  pub cut : r.bytes.now ≡ f.text.now ++ r'.bytes.now
  pub placed : f.column ≡ r.column
  pub moved : r'.column ≡ r.column + 2
  pub left : length r.bytes.now ≡ length r'.bytes.now + 2
  pub on : (ps : List Part) → wrong_in (one Hex ∷ one Hex ∷ ps) r ≡ wrong_in ps r'

-- whatever should follow two hexadecimal digits, the bytes go wrong at one of the two
pub record Unpaired (r : Rest) (c : ℕ) : Type 0 where
  pub fails : (ps : List Part) → wrong_in (one Hex ∷ one Hex ∷ ps) r ≡ Some c

-- the bytes of a field: their class, and the least and the most of them
abbrev pub class_of : Kind → Class
class_of Bit = class.Bit
class_of Number = Digit
class_of Byte = Hex

abbrev pub least_of : Kind → ℕ
least_of Bit = 1
least_of Number = 1
least_of Byte = 2

abbrev pub most_of : Kind → ℕ
most_of Bit = 1
most_of Number = 4
most_of Byte = 2

abbrev pub parts : Kind → List Part
parts Bit = one class.Bit ∷ []
parts Number = number ∷ []
parts Byte = one Hex ∷ one Hex ∷ []

-- one byte was passed, and made a field
pub record Single (c : Class) (r : Rest) (f : Field) (r' : Rest) : Type 0 where
  pub passed : Passed c r r'
  pub front : f.text.now ≡ take 1 r.bytes.now
  pub placed : f.column ≡ r.column

-- how a field of each kind is read, and where it is missed
abbrev pub Reads : Kind → Rest → Field → Rest → Type 0
Reads Bit r f r' = Single class.Bit r f r'
Reads Number r f r' = Counted r f r'
Reads Byte r f r' = Paired r f r'

abbrev pub Misses : Kind → Rest → ℕ → Type 0
Misses Bit r c = Fails (one class.Bit) r c
Misses Number r c = Fails number r c
Misses Byte r c = Unpaired r c

-- a field of the kind was read
pub record Taken (kind : Kind) (r : Rest) (f : Field) (r' : Rest) : Type 0 where
  pub reads : Reads kind r f r'

-- no field of the kind stands there
pub record Missed (kind : Kind) (r : Rest) (c : ℕ) : Type 0 where
  pub misses : Misses kind r c

-- one field was read, after a space, and nothing is left
pub record Alone (kind : Kind) (r : Rest) (f : Field) : Type 0 where
  pub whole : r.bytes.now ≡ 32 ∷ f.text.now
  pub spelled : Matches (parts kind) f.text.now
  pub placed : f.column ≡ r.column + 1

-- two fields were read, each after a space, and nothing is left
pub record Both (kind : Kind) (r : Rest) (f g : Field) : Type 0 where
  pub whole : r.bytes.now ≡ 32 ∷ (f.text.now ++ (32 ∷ g.text.now))
  pub first : Matches (parts kind) f.text.now
  pub second : Matches (parts kind) g.text.now
  pub placed₁ : f.column ≡ r.column + 1
  pub placed₂ : g.column ≡ length f.text.now + (r.column + 2)
