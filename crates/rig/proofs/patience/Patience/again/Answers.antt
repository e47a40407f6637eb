use Rattle.std.proofs.Common.{refl, arith, rules}
use Rattle.rig.proofs.Waits.{waited_none, tried, tried_done, tried_all}
use Rattle.rig.proofs.patience.Patience.again.Goals as goal

pub loop-init : goal.loop-init
loop-init g c = record { patience = refl; kept = λ call good makes. record { buffer = refl; waited = waited_none _ call } }

pub loop-preserved : goal.loop-preserved
loop-preserved g c = record {
  patience = c.loop.invariant.patience;
  kept = λ call good makes.
      tried g.R.Rig.meaning _ _ c.args.out.now call good makes c.loop.counter _ _ _ _ c.call-answer.result
      (c.loop.invariant.kept call good makes) c.call-answer.ensures (search rules);
}

pub returns-then-not-matches : goal.returns-then-not-matches
returns-then-not-matches g c = λ call good makes.
    rw c.loop.invariant.patience (
    tried_done g.R.Rig.meaning _ _ c.args.out.now call good makes c.loop.counter _ _ _ _ c.call-answer.result
    (c.loop.invariant.kept call good makes) c.call-answer.ensures c.args.self.now.patience (omega arith) (search rules)
    )

pub returns : goal.returns
returns g c = λ call good makes.
    rw c.loop.invariant.patience (
    tried_all g.R.Rig.meaning _ _ c.args.out.now call good makes c.loop.counter _ _ _ _ c.call.result
    (c.loop.invariant.kept call good makes) c.call.ensures c.args.self.now.patience (omega arith)
    )
