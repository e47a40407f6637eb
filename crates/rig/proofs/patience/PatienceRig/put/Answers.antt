use Rattle.std.proofs.Common.{refl, rules}
use Rattle.rig.specs.Meaning.{put, done}
use Rattle.rig.proofs.patience.PatienceRig.put.Goals as goal

pub returns : goal.returns
returns g c =
    let made =
    c.again.ensures (put c.args.address c.args.register c.args.byte) (λ _ _. done) record {
      bus = refl;
      speaks = λ x out e. search rules;
      makes = λ r s b d o full ran. record { answers = search rules; leaves = search rules; kept = λ _. search rules };
    } in
    record { answers = made.answers; after = made.leaves }
