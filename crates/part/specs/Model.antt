-- The part by the rules: what it holds, and what power-up leaves in it.
use Rattle.std.specs.Prelude.{ℕ, Bool, false, List}
use Rattle.samples.specs.declared.signal.Signal.{Signal}
use Rattle.samples.specs.declared.signal.Signal.TheVariants.{Current, Voltage}
use Rattle.registers.specs.declared.pins.Pins.{Pins}
use Rattle.registers.specs.Pins.{address_of}
use Rattle.registers.specs.Settings.{first_bytes}
use Rattle.part.specs.declared.Part.{Part}
use Rattle.registers.specs.declared.causes.Logs.{Logs}
use Rattle.registers.specs.declared.causes.Compares.{Compares}
use Rattle.registers.specs.Causes.{nothing, no_compare}
use Rattle.part.specs.Monitors.{Monitored, monitored, fresh}

pub record Model : Type 0 where
  pub pins : Pins
  pub settings : List ℕ
  pub current : Monitored
  pub voltage : Monitored
  pub logs : Logs
  pub latched : Bool
  pub good : Bool
  pub good_count : ℕ
  pub earlier : Compares

abbrev pub model : Part → Model
model p =
    record {
      pins = p.pins;
      settings = p.settings.bytes;
      current = monitored p.current;
      voltage = monitored p.voltage;
      logs = p.logs;
      latched = p.latched;
      good = p.power_good;
      good_count = p.good_count;
      earlier = p.earlier;
    }

abbrev pub powered : Pins → Model
powered p =
    record {
      pins = p;
      settings = first_bytes p;
      current = fresh;
      voltage = fresh;
      logs = nothing;
      latched = false;
      good = false;
      good_count = 0;
      earlier = no_compare;
    }

abbrev pub address : Model → ℕ
address m = address_of m.pins.a1 m.pins.a0

-- what the part keeps of a signal
abbrev pub monitor : Signal → Model → Monitored
monitor Current m = m.current
monitor Voltage m = m.voltage

-- the same part, with this kept of a signal
abbrev pub keeping : Model → Signal → Monitored → Model
keeping m Current t = record m { current = t }
keeping m Voltage t = record m { voltage = t }

-- the sample of a signal, of a current and a voltage
abbrev pub sample : Signal → ℕ → ℕ → ℕ
sample Current i v = i
sample Voltage i v = v
