-- The text of each answer, and what becomes of a buffer that it is written into.
use Rattle.std.specs.Prelude.{ℕ, ◌+◌, ◌/◌, ◌%◌, cond, List, [], ◌∷◌, ◌++◌, length, drop, Ok, Err, codes, decimal, Result, ◌==◌, nat_lt}
use Rattle.report.specs.declared.WrongSize.{WrongSize}
use Rattle.answers.specs.declared.Answer.{Answer}
use Rattle.answers.specs.declared.Answer.TheVariants.{Done, Byte, Report, Refused}

-- 0 to 9, then A to F
abbrev pub hex_digit : ℕ → ℕ
hex_digit n = cond (nat_lt n 10) (48 + n) (55 + n)

-- two digits for each byte, the high one first
abbrev pub hex_text : List ℕ → List ℕ
hex_text [] = []
hex_text (b ∷ bs) = hex_digit (b / 16) ∷ hex_digit (b % 16) ∷ hex_text bs

abbrev pub byte_text : ℕ → List ℕ
byte_text v = codes "= " ++ (hex_text (v ∷ []) ++ codes "\n")

abbrev pub report_text : List ℕ → List ℕ
report_text bytes = hex_text bytes ++ codes "\n"

abbrev pub refusal_text : ℕ → ℕ → List ℕ
refusal_text line number = codes "line " ++ (decimal line ++ (codes " refusal " ++ (decimal number ++ codes "\n")))

-- the answer as a line of text; opaque, since those who write answers go by its name
unfoldable pub text_of : Answer → List ℕ
text_of Done = codes "ok\n"
text_of (Byte v) = byte_text v
text_of (Report bytes) = report_text bytes.now
text_of (Refused line number) = refusal_text line number

-- a text in the place of what was in front, and the rest kept
abbrev pub at_front : List ℕ → List ℕ → List ℕ
at_front text before = text ++ drop (length text) before

-- how long the answer is; a buffer of another size is refused
abbrev pub written_length : Answer → List ℕ → Result ℕ WrongSize
written_length answer before = cond (length before == 544) (Ok (length (text_of answer))) (Err (record {}))

-- the buffer with the answer in front; one of another size is left as it was
abbrev pub written_buffer : Answer → List ℕ → List ℕ
written_buffer answer before = cond (length before == 544) (at_front (text_of answer) before) before
