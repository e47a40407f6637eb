use Rattle.std.proofs.Common.{rules, refl}
use Rattle.part.proofs.Part.event.Goals as goal

pub returns : goal.returns
returns g c = (_, record { shown = _; shows = refl; left = _; met = c.happens.ensures; leaves = refl }, search rules)
