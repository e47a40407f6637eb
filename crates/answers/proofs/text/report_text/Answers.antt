use Rattle.std.proofs.Common.{length, ap, arith}
use Rattle.std.proofs.lemmas.List.{take_all}
use Rattle.std.proofs.lemmas.Grind.{common_steps}
use Rattle.answers.specs.Text.{hex_text}
use Rattle.answers.proofs.Digits.{hex_more, length_hex_taken, length_report}
use Rattle.answers.proofs.text.report_text.Goals as goal

pub push_hex-requires : goal.push_hex-requires
push_hex-requires c = omega (arith, c.told-report, ap length c.loop-byte.invariant, length_hex_taken c.args.report.now c.loop-byte.byte-index (omega arith))

pub loop-byte-preserved : goal.loop-byte-preserved
loop-byte-preserved c = let more = hex_more c.args.report.now c.loop-byte.byte-index (omega arith) in cc (c.push_hex.ensures, c.loop-byte.invariant, more)

pub push_str-requires : goal.push_str-requires
push_str-requires c = (omega arith, omega (arith, c.told-report, ap length c.loop-byte.invariant, length_hex_taken c.args.report.now c.loop-byte.byte-index (omega arith)))

pub returns-clause-text : goal.returns-clause-text
returns-clause-text c = let whole = take_all c.loop-byte.byte-index c.args.report.now (omega arith) in grind (arith, common_steps, whole, ap hex_text whole)

pub returns-clause-long : goal.returns-clause-long
returns-clause-long c = omega (arith, c.told-report, ap length (returns-clause-text c), length_report c.args.report.now)
