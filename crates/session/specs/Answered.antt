-- The bytes that a whole script is answered with.
use Rattle.std.specs.Prelude.{◌≡◌, ℕ, ◌<◌, ◌≤◌, List, [], ◌∷◌, ◌++◌, length, Ok, Err, Option, Result}
use Rattle.std.specs.Io.KnownBytes.{Appends}
use Rattle.registers.specs.Pins.{bay}
use Rattle.part.specs.Model.{powered}
use Rattle.rig.specs.Meaning.{Meaning}
use Rattle.rig.specs.Patience.{eased}
use Rattle.answers.specs.Text.{refusal_text}
use Rattle.script.specs.declared.command.Command.{Command}
use Rattle.console.specs.Answering.{Reads, line_outcome, line_left, said, next_line}
use Rattle.console.specs.Booting.{FirstReads, boot_outcome}
use Rattle.session.specs.Lines.{line_of, after_line}

-- what the lines of a text say, in order
abbrev pub ReadAs : List ℕ → List (Result Command ℕ) → Type 0
ReadAs text [] = length text ≡ 0
ReadAs text (s ∷ ss) = (0 < length text) × Reads (line_of text) s × ReadAs (after_line text) ss

-- the answers to them at the address a of a rig that means m, line n being the last before
abbrev pub answers : Meaning → ℕ → ℕ → List (Result Command ℕ) → List ℕ
answers m a n [] = []
answers m a n (s ∷ ss) = said (next_line n) (line_outcome m a s) ++ answers (line_left m a s) a (next_line n) ss

-- patience 2 over the payload bay's part, which owes silences
abbrev pub at_start : ℕ → Meaning
at_start silences = eased (record { part = powered bay; owed = silences }) 2

-- what comes after the answer to the first line: nothing where that line is wrong
abbrev pub Later : Result ℕ ℕ → List ℕ → List ℕ → Type 0
Later (Ok silences) rest text = (ss : List (Result Command ℕ)) × ReadAs rest ss × (text ≡ answers (at_start silences) 0x3A 1 ss)
Later (Err column) rest text = text ≡ []

pub record LineByLine (script text : List ℕ) : Type 0 where
  pub first : Result ℕ ℕ
  pub later : List ℕ
  pub reads : FirstReads (line_of script) first
  pub follows : Later first (after_line script) later
  pub whole : text ≡ said 1 (boot_outcome first) ++ later

-- a script of more than 65536 bytes is refused whole
pub record AnswerTo (script text : List ℕ) : Type 0 where
  pub long : 65536 < length script → text ≡ refusal_text 0 6
  pub short : length script ≤ 65536 → LineByLine script text

-- a script has one answer at most
abbrev pub OneAnswer : Type 0
OneAnswer = (script t u : List ℕ) → AnswerTo script t → AnswerTo script u → t ≡ u

-- what a writer holds, where that is known, has grown by the answer
abbrev pub Answered : List ℕ → Option (List ℕ) → Option (List ℕ) → Type 0
Answered script old new = (text : List ℕ) × AnswerTo script text × Appends old new text
