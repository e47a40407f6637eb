use Rattle.std.proofs.Common.{◌≡◌, take}
use Rattle.answers.specs.Text.{hex_text}
use Rattle.answers.proofs.text.report_text.Given as goal

abbrev pub invariant-loop-byte : goal.invariant-loop-byte
invariant-loop-byte l = l.text.bytes ≡ hex_text (take l.byte-index l.report)
