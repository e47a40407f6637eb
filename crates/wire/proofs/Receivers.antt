-- What receivers do is what their lines do.
use Rattle.std.proofs.Common.{List}
use Rattle.bus.specs.Frames.{Beat, Driven, done, told, heard}
use Rattle.wire.specs.declared.receiver.Receiver.TheInside.{Inside}
use Rattle.wire.specs.Receive.{view}
use Rattle.wire.specs.Rests.{Receives}
use Rattle.wire.specs.Receivers.{Takes, FramesOfReceivers}
use Rattle.wire.proofs.Byte.{byte_to_send}
use Rattle.wire.proofs.Calls.{frames_are_calls}

seen : {s t : Inside} {ks : List Beat} → Driven Takes s ks t → Driven Receives (view s) ks (view t)
seen done = done
seen (told {m = m} r d) = told (record { goes = r.0; says = r.1; fits = byte_to_send m }) (seen d)
seen (heard {m = m} r d) = heard (record { goes = r.0; says = r.1; fits = byte_to_send m }) (seen d)

pub frames_of_receivers : FramesOfReceivers
frames_of_receivers = record {
  puts = λ s t a r x f at low fits unsent d. frames_are_calls.puts (view s) (view t) a r x f at low fits unsent (seen d);
  gets = λ s t a r ns f at low one fits unsent d. frames_are_calls.gets (view s) (view t) a r ns f at low one fits unsent (seen d);
  blocks = λ s t a base ns f at size ring fits unsent d. frames_are_calls.blocks (view s) (view t) a base ns f at size ring fits unsent (seen d);
}
