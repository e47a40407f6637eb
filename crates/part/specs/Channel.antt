-- The channel, and what follows any event: M falling, the channel turning off or on, the extremes resetting.
use Rattle.std.specs.Prelude.{ℕ, Bool, false, cond, not, Some, None, Option, ◌&&◌, ◌||◌, ◌==◌}
use Rattle.samples.specs.declared.signal.Signal.{Signal}
use Rattle.samples.specs.declared.signal.Signal.TheVariants.{Current, Voltage}
use Rattle.registers.specs.Pins.{high}
use Rattle.registers.specs.Questions.{en1, en2, resets, holds, stop_delay}
use Rattle.registers.specs.Causes.{has, logs}
use Rattle.part.specs.declared.monitor.RingState.{RingState}
use Rattle.part.specs.declared.monitor.RingState.TheVariants.{Running, CountingDown, Stopped}
use Rattle.part.specs.declared.channel.Turn.{Turn}
use Rattle.part.specs.declared.channel.Turn.TheVariants as turn
use Rattle.part.specs.Monitors.{Monitored}
use Rattle.part.specs.Model.{Model}

-- at least two of three
abbrev pub two_of : Bool → Bool → Bool → Bool
two_of a b c = (a && b) || (a && c) || (b && c)

-- M, the majority of EN1, EN2 and ON
unfoldable pub majority : Model → Bool
majority m = two_of (en1 m.settings) (en2 m.settings) (high m.pins.on)

-- the channel is on
unfoldable pub channel : Model → Bool
channel m = majority m && not m.latched

-- ---- the event has made m; the first argument is what M, or the channel, was before it

abbrev pub falls : Bool → Model → Bool
falls was m = was && not (majority m)

abbrev pub turns_off : Bool → Model → Bool
turns_off was m = was && not (channel m)

abbrev pub turns_on : Bool → Model → Bool
turns_on was m = not was && channel m

-- the extremes of the signal reset: the reset bit is 1 or the channel turns on, and the hold bit is 0
abbrev pub forgets : Bool → Model → Signal → Bool
forgets was m s = not (holds m.settings s) && (resets m.settings s || turns_on was m)

-- a running ring counts down from the stop delay; a count of 0 means stopped
abbrev pub slowed : ℕ → RingState → RingState
slowed delay Running = cond (delay == 0) Stopped (CountingDown delay)
slowed delay (CountingDown k) = CountingDown k
slowed delay Stopped = Stopped

abbrev pub settled_monitor : Bool → Bool → Bool → ℕ → Monitored → Monitored
settled_monitor forget on off delay t =
    record {
      latest = t.latest;
      smallest = cond forget 1023 t.smallest;
      largest = cond forget 0 t.largest;
      ring = t.ring;
      state = cond on Running (cond off (slowed delay t.state) t.state);
    }

-- the two turns as one: none, on, or off with the stop delay
abbrev pub turn_by : Bool → Model → Option Turn
turn_by was m = cond (turns_on was m) (Some turn.On) (cond (turns_off was m) (Some (turn.Off (stop_delay m.settings))) None)

abbrev pub settled_signal : Bool → Model → Signal → Monitored → Monitored
settled_signal was m s t = settled_monitor (forgets was m s) (turns_on was m) (turns_off was m) (stop_delay m.settings) t

-- M and the channel having been so before the event
abbrev pub settled_by : Bool → Bool → Model → Model
settled_by was_majority was_channel m =
    record {
      pins = m.pins;
      settings = m.settings;
      current = settled_signal was_channel m Current m.current;
      voltage = settled_signal was_channel m Voltage m.voltage;
      logs = logs (λ q. cond (falls was_majority m) false (has q m.logs));
      latched = cond (falls was_majority m) false m.latched;
      good = cond (turns_off was_channel m) false m.good;
      good_count = cond (turns_off was_channel m) 0 m.good_count;
      earlier = m.earlier;
    }

-- what an event that has made m of b leaves in the end
abbrev pub settled : Model → Model → Model
settled b m = settled_by (majority b) (channel b) m
