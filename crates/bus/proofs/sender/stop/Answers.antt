use Rattle.bus.specs.Frames.{done, told, stop_frame}
use Rattle.bus.proofs.sender.stop.Goals as goal

pub returns : goal.returns
unfolding stop_frame
returns g c = search (done, told)
