use Rattle.std.proofs.Common.{refl}
use Rattle.rig.specs.Patience.{eased}
use Rattle.rig.proofs.Waits.{waits, eased_none}
use Rattle.rig.proofs.patience.Patience.new.Goals as goal

pub returns : goal.returns
returns g c = record {
  meaning = refl;
  none = eased_none (g.R.Rig.meaning c.args.below) c.args.patience;
  waits = waits (eased (g.R.Rig.meaning c.args.below) c.args.patience);
}
