-- What the console answers to a line, and what it leaves.
use Rattle.std.specs.Prelude.{◌≡◌, ℕ, ◌+◌, Bool, cond, List, length, Ok, Err, codes, Result, MatchResult, ◌==◌, nat_lt}
use Rattle.rig.specs.Meaning.{Meaning}
use Rattle.answers.specs.Text.{byte_text, report_text, refusal_text, at_front}
use Rattle.script.specs.Grammar.{Right, Wrong}
use Rattle.script.specs.Commands.{meant}
use Rattle.script.specs.declared.command.Command.{Command}
use Rattle.console.specs.declared.fault.Cause.TheVariants.{Form}
use Rattle.console.specs.declared.fault.ConsoleFault.{ConsoleFault}
use Rattle.console.specs.declared.fault.ConsoleFault.TheVariants.{Size, Line}
use Rattle.console.specs.Faults.{cause_number}
use Rattle.console.specs.Outcomes.{Outcome, done, byte, report, refused, outcome, left_by}

-- a line says a command, or it is wrong from a column on
abbrev pub Reads : List ℕ → Result Command ℕ → Type 0
Reads line spoken = MatchResult spoken (λ c. Right line × (c ≡ meant line)) (λ column. Wrong line column)

abbrev pub line_outcome : Meaning → ℕ → Result Command ℕ → Outcome
line_outcome m a (Ok c) = outcome m a c
line_outcome m a (Err column) = refused (Form column)

-- a wrong line leaves the rig
abbrev pub line_left : Meaning → ℕ → Result Command ℕ → Meaning
line_left m a (Ok c) = left_by m a c
line_left m a (Err column) = m

-- the text of the answer to line n, with its line feed
unfoldable pub said : ℕ → Outcome → List ℕ
said n done = codes "ok\n"
said n (byte b) = byte_text b
said n (report bytes) = report_text bytes
said n (refused c) = refusal_text n (cause_number c)

-- how long it is, or the fault, which has the line
abbrev pub result_of : ℕ → Outcome → Result ℕ ConsoleFault
result_of n done = Ok (length (said n done))
result_of n (byte b) = Ok (length (said n (byte b)))
result_of n (report bytes) = Ok (length (said n (report bytes)))
result_of n (refused c) = Err (Line n c)

-- lines are counted from 1, and the count rests at its greatest
abbrev pub next_line : ℕ → ℕ
next_line n = cond (nat_lt n 4294967295) (n + 1) n

-- a buffer of this size takes an answer
abbrev pub fits : ℕ → Bool
fits size = size == 544

abbrev pub answer_result : ℕ → ℕ → Outcome → Result ℕ ConsoleFault
answer_result size n o = cond (fits size) (result_of n o) (Err Size)

abbrev pub answer_left : ℕ → Meaning → ℕ → Result Command ℕ → Meaning
answer_left size m a spoken = cond (fits size) (line_left m a spoken) m

abbrev pub answer_buffer : List ℕ → ℕ → Outcome → List ℕ
answer_buffer before n o = cond (fits (length before)) (at_front (said n o) before) before

-- how many bytes of the buffer are the answer that tells of a fault
abbrev pub fault_length : ConsoleFault → ℕ
fault_length Size = 0
fault_length (Line n c) = length (said n (refused c))

-- how many bytes of the buffer are the answer
abbrev pub answer_length : Result ℕ ConsoleFault → ℕ
answer_length (Ok n) = n
answer_length (Err e) = fault_length e
