use Rattle.wire.proofs.Byte.{shows_bytes}
use Rattle.wire.proofs.receiver.Receiver.pin.Goals as goal

pub returns-clause-bytes : goal.returns-clause-bytes
returns-clause-bytes c = shows_bytes c.pin.new.self
