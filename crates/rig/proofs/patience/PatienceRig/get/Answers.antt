use Rattle.std.proofs.Common.{refl, rules}
use Rattle.rig.specs.Meaning.{get, byte}
use Rattle.rig.proofs.patience.PatienceRig.get.Goals as goal

pub returns : goal.returns
returns g c =
    let made =
    c.again.ensures (get c.args.address c.args.register) (λ x _. byte x) record {
      bus = refl;
      speaks = λ x out e. search rules;
      makes = λ r s b d o full ran. record { answers = search rules; leaves = search rules; kept = λ _. search rules };
    } in
    record { answers = made.answers; after = made.leaves }
