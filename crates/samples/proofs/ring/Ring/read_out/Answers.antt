use Rattle.std.proofs.Common.{◌<◌, length, arith, rules}
use Rattle.std.proofs.lemmas.List.FromFn.{fill_by_all}
use Rattle.std.proofs.lemmas.List.Edits.{fill_by_more}
use Rattle.samples.specs.History.{content, byte_at}
use Rattle.samples.proofs.ring.Ring.read_out.Goals as goal

pub loop-k-preserved : goal.loop-k-preserved
loop-k-preserved c =
    let lt : c.loop-k.k < length c.loop-k.out = omega arith in
    rw c.byte.ensures (fill_by_more (byte_at c.args.resolution (content c.args.self.now)) c.loop-k.out c.loop-k.k 0 lt c.loop-k.invariant)

pub returns : goal.returns
returns c = fill_by_all (byte_at c.args.resolution (content c.args.self.now)) c.loop-k.out _ 0 (search rules) (λ k h. c.loop-k.invariant k (omega arith))
