use Rattle.std.proofs.Common.{refl, rules}
use Rattle.bus.proofs.Recordings.{keeps_runs}
use Rattle.bus.proofs.recorder.Recorder.new.Goals as goal

pub returns : goal.returns
returns g c = record { bus = refl; empty = search rules; complete = refl; runs = keeps_runs g.B.Bus.drives }
