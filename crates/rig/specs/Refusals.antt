-- Refusals, each with its number.
use Rattle.std.specs.Prelude.{ℕ, Bool, true, false, Ok, Err, Result}
use Rattle.rig.specs.declared.Refusal.{Refusal}
use Rattle.rig.specs.declared.Refusal.TheVariants.{Sample, Length, Register, Silence}
use Rattle.rig.specs.Meaning.{Answer, refused}

abbrev pub number_of : Refusal → ℕ
number_of (Sample s) = 1
number_of Length = 2
number_of Register = 3
number_of Silence = 4

-- a result as an answer
abbrev pub told : {X : Type 0} → (X → Answer) → Result X Refusal → Answer
told good (Ok x) = good x
told good (Err e) = refused e

abbrev pub is_silence : Refusal → Bool
is_silence (Sample s) = false
is_silence Length = false
is_silence Register = false
is_silence Silence = true

abbrev pub silent : {X : Type 0} → Result X Refusal → Bool
silent (Ok x) = false
silent (Err e) = is_silence e
