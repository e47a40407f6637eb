use Rattle.std.proofs.Common.{◌≡◌, length, arith, rules}
use Rattle.bus.specs.Frames.{done, taken_bytes}
use Rattle.bus.proofs.Runs.{unheard, byte_ahead, byte_last}
use Rattle.bus.proofs.sender.read_all.Goals as goal

pub returns-in_default : goal.returns-in_default
unfolding taken_bytes
returns-in_default g c = let e : length c.args.into.now ≡ 0 = search rules in rw e done

pub loop-place-init : goal.loop-place-init
unfolding taken_bytes
loop-place-init g c = done

pub loop-place-preserved : goal.loop-place-preserved
loop-place-preserved g c =
    byte_ahead c.loop-place.others c.in-Some.last.now c.loop-place.place-index c.read_byte.result (omega arith) c.loop-place.invariant c.read_byte.ensures
    (unheard c.send_bit.ensures)

pub returns : goal.returns
returns g c =
    byte_last c.loop-place.others c.in-Some.last.now c.loop-place.place-index c.read_byte-2.result (omega arith) c.loop-place.invariant c.read_byte-2.ensures
    (unheard c.send_bit-2.ensures)
