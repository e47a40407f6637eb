use Rattle.bus.specs.Frames.{told, start_frame, repeat_frame}
use Rattle.bus.proofs.sender.start_again.Goals as goal

pub returns : goal.returns
unfolding start_frame repeat_frame
returns g c = search told
