use Rattle.std.proofs.Common.{◌∙◌, rules}
use Rattle.samples.specs.History.{content}
use Rattle.samples.proofs.Rings.{pushes_more, pushes_all}
use Rattle.samples.proofs.ring.Ring.recorded.Goals as goal

pub loop-sample-preserved : goal.loop-sample-preserved
loop-sample-preserved c =
    pushes_more (λ s. s.value) (content c.loop-sample.ring) _ c.args.samples.now c.loop-sample.sample-index c.sample-item.result (search rules) c.sample-item.is c.store.ensures
    ∙ c.loop-sample.invariant

pub returns : goal.returns
returns c = pushes_all (λ s. s.value) _ c.args.samples.now c.loop-sample.sample-index (search rules) c.loop-sample.invariant
