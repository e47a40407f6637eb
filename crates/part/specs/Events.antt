-- The events of a part, and what each makes of it.
use Rattle.std.specs.Prelude.{ℕ, Bool, true, false, cond, List, ◌&&◌, ◌==◌}
use Rattle.samples.specs.declared.signal.Signal.{Signal}
use Rattle.samples.specs.declared.signal.Signal.TheVariants.{Current, Voltage}
use Rattle.registers.specs.declared.pins.Level.{Level}
use Rattle.registers.specs.declared.pins.Pins.{Pins}
use Rattle.registers.specs.declared.causes.Trip.{Trip}
use Rattle.registers.specs.declared.causes.Trip.TheVariants.{Fast, Slow}
use Rattle.registers.specs.declared.causes.Compare.TheVariants.{Uv1, Uv2, Ov1, Ov2, Oi}
use Rattle.registers.specs.declared.causes.Cause.{Cause}
use Rattle.registers.specs.declared.causes.Cause.TheVariants as cause
use Rattle.registers.specs.Causes.{has, logs}
use Rattle.registers.specs.Questions.{runs}
use Rattle.registers.specs.Settings.{written}
use Rattle.part.specs.declared.events.Pin.{Pin}
use Rattle.part.specs.declared.events.Pin.TheVariants.{On, Pol}
use Rattle.part.specs.declared.monitor.RingState.{RingState}
use Rattle.part.specs.declared.monitor.RingState.TheVariants.{Running, CountingDown, Stopped}
use Rattle.part.specs.Monitors.{Monitored}
use Rattle.part.specs.Model.{Model}
use Rattle.part.specs.Channel.{channel, settled}
use Rattle.part.specs.Tick.{measured}

-- ---- a pin goes to a level

abbrev pub with_pin : Pin → Level → Pins → Pins
with_pin On l p = record { on = l; hwen = p.hwen; pol = p.pol; prot = p.prot; irng = p.irng; a1 = p.a1; a0 = p.a0 }
with_pin Pol l p = record { on = p.on; hwen = p.hwen; pol = l; prot = p.prot; irng = p.irng; a1 = p.a1; a0 = p.a0 }

abbrev pub pinned : Model → Pin → Level → Model
pinned m w l =
    record {
      pins = with_pin w l m.pins;
      settings = m.settings;
      current = m.current;
      voltage = m.voltage;
      logs = m.logs;
      latched = m.latched;
      good = m.good;
      good_count = m.good_count;
      earlier = m.earlier;
    }

-- ---- the breaker trips

abbrev pub same_trip : Trip → Trip → Bool
same_trip Fast Fast = true
same_trip Fast Slow = false
same_trip Slow Fast = false
same_trip Slow Slow = true

-- with the channel on, the trip is logged
abbrev pub trips : Model → Trip → Cause → Bool
trips m t (cause.Trip u) = channel m && same_trip t u
trips m t (cause.Compare q) = false

-- and latches the part; with the channel off it does nothing
abbrev pub tripped : Model → Trip → Model
tripped m t =
    record {
      pins = m.pins;
      settings = m.settings;
      current = m.current;
      voltage = m.voltage;
      logs = logs (λ q. cond (trips m t q) true (has q m.logs));
      latched = cond (channel m) true m.latched;
      good = m.good;
      good_count = m.good_count;
      earlier = m.earlier;
    }

-- ---- a byte is written to a register

-- a write of any byte to the register clears the cause
abbrev pub cleared_by : ℕ → Cause → Bool
cleared_by n (cause.Trip t) = false
cleared_by n (cause.Compare Uv1) = n == 0x35
cleared_by n (cause.Compare Uv2) = n == 0x35
cleared_by n (cause.Compare Ov1) = n == 0x36
cleared_by n (cause.Compare Ov2) = n == 0x36
cleared_by n (cause.Compare Oi) = n == 0x37

-- a write of 0x19 with a stopped ring's run bit 1 makes it run
abbrev pub woken : RingState → RingState
woken Running = Running
woken (CountingDown k) = CountingDown k
woken Stopped = Running

abbrev pub with_state : Monitored → RingState → Monitored
with_state t g = record { latest = t.latest; smallest = t.smallest; largest = t.largest; ring = t.ring; state = g }

-- by the settings: with its run bit 0 a ring stays as it is
abbrev pub woken_by : List ℕ → Signal → Monitored → Monitored
woken_by bytes s t = with_state t (cond (runs bytes s) (woken t.state) t.state)

abbrev pub restarted : Model → ℕ → ℕ → Signal → Monitored → Monitored
restarted m n byte s t = with_state t (cond (n == 0x19 && runs (written m.settings n byte) s) (woken t.state) t.state)

abbrev pub overwritten : Model → ℕ → ℕ → Model
overwritten m n byte =
    record {
      pins = m.pins;
      settings = written m.settings n byte;
      current = restarted m n byte Current m.current;
      voltage = restarted m n byte Voltage m.voltage;
      logs = logs (λ q. cond (cleared_by n q) false (has q m.logs));
      latched = m.latched;
      good = m.good;
      good_count = m.good_count;
      earlier = m.earlier;
    }

-- ---- a ring is read out, which stops that ring only

abbrev pub same_signal : Signal → Signal → Bool
same_signal Current Current = true
same_signal Current Voltage = false
same_signal Voltage Current = false
same_signal Voltage Voltage = true

abbrev pub halted : Signal → Signal → Monitored → Monitored
halted read s t = with_state t (cond (same_signal read s) Stopped t.state)

abbrev pub blocked : Model → Signal → Model
blocked m read =
    record {
      pins = m.pins;
      settings = m.settings;
      current = halted read Current m.current;
      voltage = halted read Voltage m.voltage;
      logs = m.logs;
      latched = m.latched;
      good = m.good;
      good_count = m.good_count;
      earlier = m.earlier;
    }

-- ---- all events

pub data Event : Type 0 where
  tick : ℕ → ℕ → Event
  pin : Pin → Level → Event
  trip : Trip → Event
  write : ℕ → ℕ → Event
  block : Signal → Event

-- opaque, so that what stands above a part goes by the laws of Runs
unfoldable pub step : Model → Event → Model
step m (tick i v) = settled m (measured m i v)
step m (pin w l) = settled m (pinned m w l)
step m (trip t) = settled m (tripped m t)
step m (write n byte) = settled m (overwritten m n byte)
step m (block s) = blocked m s
