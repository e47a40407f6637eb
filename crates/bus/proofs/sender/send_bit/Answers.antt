use Rattle.bus.specs.Frames.{done, told, heard}
use Rattle.bus.proofs.sender.send_bit.Goals as goal

pub returns : goal.returns
returns g c = search (done, told, heard)
