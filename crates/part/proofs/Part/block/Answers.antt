use Rattle.std.proofs.Common.{◌≡◌, rules}
use Rattle.samples.specs.declared.signal.Signal.{Signal}
use Rattle.samples.specs.declared.signal.Signal.TheVariants.{Current, Voltage}
use Rattle.part.specs.declared.Part.{Part}
use Rattle.part.specs.declared.monitor.Monitor.{Monitor}
use Rattle.part.specs.declared.monitor.RingState.TheVariants.{Stopped}
use Rattle.part.specs.Monitors.{monitored}
use Rattle.part.specs.Model.{model, monitor}
use Rattle.part.specs.Lending.{with_monitor}
use Rattle.part.specs.Events.{step, block, with_state}
use Rattle.part.proofs.Part.block.Goals as goal

stopped : (p : Part) (s : Signal) (t : Monitor) → monitored t ≡ with_state (monitor s (model p)) Stopped → model (with_monitor p s t) ≡ step (model p) (block s)
unfolding step
stopped p Current t is = search rules
stopped p Voltage t is = search rules

pub returns-clause-after : goal.returns-clause-after
returns-clause-after c = stopped c.args.self.now c.args.signal c.stop.new.self (search rules)
