-- What a part ends as, once what it keeps of a signal has been changed through a borrow.
use Rattle.std.specs.Borrow.{Lends, MutBor, Fml}
use Rattle.samples.specs.declared.signal.Signal.{Signal}
use Rattle.samples.specs.declared.signal.Signal.TheVariants.{Current, Voltage}
use Rattle.part.specs.declared.Part.{Part}
use Rattle.part.specs.declared.monitor.Monitor.{Monitor}
use Rattle.part.specs.contracts.Part.{the_row}
use Rattle.part.specs.contracts.monitor.Monitor as monitors

abbrev pub with_monitor : Part → Signal → Monitor → Part
with_monitor p Current t = record p { current = t }
with_monitor p Voltage t = record p { voltage = t }

abbrev pub LendsMonitor : MutBor Part → Signal → MutBor Monitor → Fml
LendsMonitor p s r = Lends the_row monitors.the_row p r (with_monitor p.now s)
