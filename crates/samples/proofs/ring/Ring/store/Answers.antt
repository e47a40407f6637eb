use Rattle.std.proofs.Common.{rules}
use Rattle.samples.proofs.Rings.{stores}
use Rattle.samples.proofs.ring.Ring.store.Goals as goal

pub returns : goal.returns
returns c =
    stores (λ s. s.value) c.args.self.now.samples c.args.self.now.oldest _ 50 c.args.sample (search rules) (search rules) c.next-self.ensures
