use Rattle.std.proofs.Common.{◌≡◌, arith}
use Rattle.bus.specs.Frames.{done, taken_bits}
use Rattle.bus.proofs.Runs.{bit_more}
use Rattle.bus.proofs.sender.read_byte.Goals as goal

pub loop-init : goal.loop-init
unfolding taken_bits
loop-init g c = (omega arith, done)

pub loop-preserved : goal.loop-preserved
loop-preserved g c =
    bit_more c.loop.byte c.loop.counter c.from.result c.send_bit-bit.result c.loop.invariant.0 c.loop-test.true c.from.ensures
    c.loop.invariant.1
    c.send_bit-bit.ensures

pub returns : goal.returns
returns g c =
    let e : c.loop.counter ≡ 8 = omega arith in
    rw e at c.loop.invariant.1
