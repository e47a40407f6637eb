use Rattle.bus.specs.Frames.{done, told, start_frame}
use Rattle.bus.proofs.sender.start.Goals as goal

pub returns : goal.returns
unfolding start_frame
returns g c = search (done, told)
