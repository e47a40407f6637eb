use Rattle.std.proofs.Common.{◌+◌, ◌*◌, ap, ◌∙◌, pow-suc, add-one, arith}
use Rattle.std.proofs.lemmas.List.{take_all}
use Rattle.std.specs.Str.Parse.{digits_value}
use Rattle.script.proofs.Values.{digit_at, value_step}
use Rattle.script.proofs.reader.decimal.Goals as goal

pub overflow_sub-byte : goal.overflow_sub-byte
overflow_sub-byte c = (digit_at c.args.text.now c.loop-byte.byte-index c.requires.2 (omega arith)).0

pub loop-byte-preserved : goal.loop-byte-preserved
loop-byte-preserved c =
    let d = digit_at c.args.text.now c.loop-byte.byte-index c.requires.2 (omega arith) in
    let step = value_step c.args.text.now c.loop-byte.byte-index c.loop-byte.n c.requires.2 (omega arith) c.loop-byte.invariant.0 in
    (ap (λ m. c.loop-byte.n * 10 + m) c.from.ensures ∙ step, rw (add-one, pow-suc) (omega (arith, c.from.ensures, d.1, c.loop-byte.invariant.1)))

pub returns : goal.returns
returns c = c.loop-byte.invariant.0 ∙ ap (digits_value 10) (take_all c.loop-byte.byte-index c.args.text.now (omega arith))
