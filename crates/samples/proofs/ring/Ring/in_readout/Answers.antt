use Rattle.std.proofs.Common.{rules}
use Rattle.samples.proofs.Rounds.{getD_readout}
use Rattle.samples.proofs.ring.Ring.in_readout.Goals as goal

pub returns : goal.returns
returns c = getD_readout (λ s. s.value) c.args.self.now.samples c.args.self.now.oldest c.next-first.result c.args.k _ _ (search rules) (search rules) c.next-first.ensures c.advance.ensures
