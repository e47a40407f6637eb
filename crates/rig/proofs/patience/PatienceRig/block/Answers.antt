use Rattle.std.proofs.Common.{◌≡◌, cond, length, refl, ap, ◌∙◌, rules}
use Rattle.rig.specs.Meaning.{block, block_of, bytes, answer, next, filled}
use Rattle.rig.specs.Patience.{eased}
use Rattle.rig.specs.Refusals.{told}
use Rattle.rig.proofs.Bus.{block_filled}
use Rattle.rig.proofs.patience.PatienceRig.block.Goals as goal

pub returns : goal.returns
returns g c =
    let made =
    c.again.ensures (block c.args.address c.args.base (length c.args.out.now)) (λ _ out. bytes out) record {
      bus = refl;
      speaks = λ x out e. search rules;
      makes = λ r s b d o full ran.
          let answers : told (λ _. bytes d.now) o ≡ answer (g.R.Rig.meaning r.now) (block c.args.address c.args.base (length b.now)) = search rules in
          let leaves : g.R.Rig.meaning s.now ≡ next (g.R.Rig.meaning r.now) (block c.args.address c.args.base (length b.now)) = search rules in
          let buffer : d.now ≡ filled (g.R.Rig.meaning r.now) c.args.address c.args.base b.now = search rules in
          rw (← full) record { answers = answers; leaves = leaves; kept = λ t. buffer ∙ ap (λ x. cond x (block_of (g.R.Rig.meaning r.now).part c.args.base (length b.now)) b.now) t };
    } in
    record { answers = made.answers; after = made.leaves; filled = block_filled (eased (g.R.Rig.meaning c.args.self.now.below) c.args.self.now.patience) c.args.address c.args.base _ _ _ made.answers made.kept }
