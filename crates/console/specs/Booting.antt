-- The first line of a script: how many silences the rig owes at its start.
use Rattle.std.specs.Prelude.{◌≡◌, ℕ, cond, List, length, drop, Ok, Err, Result, MatchResult}
use Rattle.std.specs.Str.Parse.{digits_value}
use Rattle.script.specs.Grammar.{FirstRight, FirstLineWrong}
use Rattle.console.specs.declared.fault.Cause.TheVariants.{Form}
use Rattle.console.specs.declared.fault.ConsoleFault.{ConsoleFault}
use Rattle.console.specs.declared.fault.ConsoleFault.TheVariants.{Size, Line}
use Rattle.console.specs.Outcomes.{Outcome, done, refused}
use Rattle.console.specs.Answering.{said, fits, fault_length}

-- the line has a hold-off, or it is wrong from a column on
abbrev pub FirstReads : List ℕ → Result ℕ ℕ → Type 0
FirstReads line first = MatchResult first (λ n. FirstRight line × (n ≡ digits_value 10 (drop 2 line))) (λ column. FirstLineWrong line column)

abbrev pub boot_outcome : Result ℕ ℕ → Outcome
boot_outcome (Ok n) = done
boot_outcome (Err column) = refused (Form column)

-- the hold-off and the answer's length, or the fault of line 1
abbrev pub booted : Result ℕ ℕ → Result (ℕ × ℕ) ConsoleFault
booted (Ok n) = Ok (n, length (said 1 done))
booted (Err column) = Err (Line 1 (Form column))

abbrev pub boot_result : ℕ → Result ℕ ℕ → Result (ℕ × ℕ) ConsoleFault
boot_result size s = cond (fits size) (booted s) (Err Size)

-- how many bytes of the buffer are the answer
abbrev pub boot_length : Result (ℕ × ℕ) ConsoleFault → ℕ
boot_length (Ok p) = p.1
boot_length (Err e) = fault_length e
