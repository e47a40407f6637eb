-- What a wire rig means.
use Rattle.rig.specs.Meaning.{Meaning}
use Rattle.wire.specs.declared.wire_rig.Wire.{Wire}
use Rattle.wire.specs.Rests.{meaning_of}

abbrev pub wire_meaning : Wire → Meaning
wire_meaning w = meaning_of w.receiver
