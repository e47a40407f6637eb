use Rattle.std.proofs.Common.{rules}
use Rattle.wire.proofs.Calls.{frames_are_calls}
use Rattle.wire.proofs.Receivers.{frames_of_receivers}
use Rattle.wire.proofs.wire_rig.Wire.new.Goals as goal

pub returns : goal.returns
returns c = record { meaning = search rules; frames = frames_are_calls; receivers = frames_of_receivers }
