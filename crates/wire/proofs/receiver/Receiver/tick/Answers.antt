use Rattle.wire.proofs.Byte.{shows_bytes}
use Rattle.wire.proofs.receiver.Receiver.tick.Goals as goal

pub returns-clause-bytes : goal.returns-clause-bytes
returns-clause-bytes c = shows_bytes c.tick.new.self
