use Rattle.std.proofs.Common.{◌≡◌, ◌*◌, ◌-◌, ◌%◌, ltb, refl, ap, ◌∙◌, add-one, arith}
use Rattle.bus.specs.Frames.{done, bit_at, bits_frame}
use Rattle.bus.proofs.Bits.{next_bit}
use Rattle.bus.proofs.Runs.{then, unheard, ninth}
use Rattle.bus.proofs.sender.send_byte.Goals as goal

pub loop-init : goal.loop-init
unfolding bits_frame
loop-init g c = (refl, done)

pub loop-preserved : goal.loop-preserved
unfolding bits_frame
loop-preserved g c =
    let top : ltb 127 c.loop.left ≡ bit_at c.args.byte (7 - c.loop.counter) = ap (ltb 127) c.loop.invariant.0 ∙ next_bit c.args.byte c.loop.counter (omega arith) c.loop-test.true in
    rw add-one (ap (λ x. x * 2 % 256) c.loop.invariant.0, then c.loop.invariant.1 (unheard (rw top at c.send_bit.ensures)))

pub returns-then-send_bit-clause-run : goal.returns-then-send_bit-clause-run
returns-then-send_bit-clause-run g c = rw c.if-send_bit.true at (ninth c.args.byte c.loop.counter c.send_bit-2.result (omega arith) c.loop.invariant.1 c.send_bit-2.ensures)

pub returns-else-send_bit-clause-run : goal.returns-else-send_bit-clause-run
returns-else-send_bit-clause-run g c = rw c.if-send_bit.false at (ninth c.args.byte c.loop.counter c.send_bit-2.result (omega arith) c.loop.invariant.1 c.send_bit-2.ensures)
