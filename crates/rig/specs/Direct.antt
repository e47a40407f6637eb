-- What a direct rig means.
use Rattle.part.specs.Model.{model}
use Rattle.rig.specs.declared.direct.Direct.{Direct}
use Rattle.rig.specs.Meaning.{Meaning}

abbrev pub direct_meaning : Direct → Meaning
direct_meaning d = record { part = model d.part; owed = d.owed }
