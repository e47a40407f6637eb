-- One tick: a current sample i and a voltage sample v, in seven steps.
use Rattle.std.specs.Prelude.{ℕ, ◌+◌, ◌-◌, Bool, true, false, cond, not, ◌&&◌, ◌||◌, nat_le, nat_lt}
use Rattle.samples.specs.History.{pushed}
use Rattle.samples.specs.declared.signal.Signal.{Signal}
use Rattle.samples.specs.declared.signal.Signal.TheVariants.{Current, Voltage}
use Rattle.registers.specs.declared.pins.Strap.{Strap}
use Rattle.registers.specs.declared.pins.Strap.TheVariants.{Low, High, Open}
use Rattle.registers.specs.declared.causes.Compare.{Compare}
use Rattle.registers.specs.declared.causes.Compare.TheVariants.{Uv1, Uv2, Ov1, Ov2, Oi}
use Rattle.registers.specs.declared.causes.Cause.{Cause}
use Rattle.registers.specs.declared.causes.Cause.TheVariants as cause
use Rattle.registers.specs.Causes.{holds as was, has, compares, logs}
use Rattle.registers.specs.Questions.{runs, resets, holds, threshold, deglitches, good_delay}
use Rattle.part.specs.declared.monitor.RingState.{RingState}
use Rattle.part.specs.declared.monitor.RingState.TheVariants.{Running, CountingDown, Stopped}
use Rattle.part.specs.Monitors.{Monitored}
use Rattle.part.specs.Model.{Model, monitor}
use Rattle.part.specs.Channel.{channel}

abbrev pub lesser : ℕ → ℕ → ℕ
lesser x y = cond (nat_lt x y) x y

abbrev pub greater : ℕ → ℕ → ℕ
greater x y = cond (nat_lt x y) y x

-- step 2: with hold and reset bits 0 the extremes take the sample in
abbrev pub counts : Model → Signal → Bool
counts m s = not (holds m.settings s) && not (resets m.settings s)

-- step 3: a ring that is not stopped, with run bit 1, stores the sample
abbrev pub moving : RingState → Bool
moving Running = true
moving (CountingDown k) = true
moving Stopped = false

abbrev pub stores : Model → Signal → Bool
stores m s = moving (monitor s m).state && runs m.settings s

-- a ring counting down then counts one less, and stops at 0
abbrev pub one_less : RingState → RingState
one_less Running = Running
one_less (CountingDown k) = cond (nat_le k 1) Stopped (CountingDown (k - 1))
one_less Stopped = Stopped

-- steps 1 to 3
abbrev pub sampled_monitor : Bool → Bool → ℕ → Monitored → Monitored
sampled_monitor counted stored x t =
    record {
      latest = x;
      smallest = cond counted (lesser x t.smallest) t.smallest;
      largest = cond counted (greater x t.largest) t.largest;
      ring = cond stored (pushed t.ring x) t.ring;
      state = one_less t.state;
    }

abbrev pub sampled : Model → Signal → ℕ → Monitored → Monitored
sampled m s x t = sampled_monitor (counts m s) (stores m s) x t

-- step 4: the sample is beyond the threshold; the compare is made only if power-good was 1 before the tick
abbrev pub beyond : Model → ℕ → ℕ → Compare → Bool
beyond m i v Uv1 = nat_lt v (threshold m.settings Uv1)
beyond m i v Uv2 = nat_lt v (threshold m.settings Uv2)
beyond m i v Ov1 = nat_lt (threshold m.settings Ov1) v
beyond m i v Ov2 = nat_lt (threshold m.settings Ov2) v
beyond m i v Oi = nat_lt (threshold m.settings Oi) i

abbrev pub positive : Model → ℕ → ℕ → Compare → Bool
positive m i v q = beyond m i v q && m.good

-- step 5: a positive compare acts if its deglitch bit is 0, or if it was made and positive at the previous tick also
abbrev pub acts : Model → ℕ → ℕ → Compare → Bool
acts m i v q = positive m i v q && (not (deglitches m.settings q) || was q m.earlier)

-- each acting compare is logged
abbrev pub logs_at : Model → ℕ → ℕ → Cause → Bool
logs_at m i v (cause.Trip t) = false
logs_at m i v (cause.Compare q) = acts m i v q

-- step 6: a critical compare acts; PROT low or high clears power-good, and low latches the part
abbrev pub critical : Model → ℕ → ℕ → Bool
critical m i v = acts m i v Uv2 || acts m i v Ov2

abbrev pub guards : Strap → Bool
guards Low = true
guards High = true
guards Open = false

abbrev pub latches : Strap → Bool
latches Low = true
latches High = false
latches Open = false

-- step 7: the channel is on and the voltage is within its critical limits
abbrev pub good_tick : Model → ℕ → ℕ → Bool
good_tick m i v = not (beyond m i v Uv2) && not (beyond m i v Ov2) && channel m

abbrev pub next_count : Model → ℕ → ℕ → ℕ
next_count m i v = cond (good_tick m i v) (lesser (m.good_count + 1) 4000) 0

-- power-good after steps 6 and 7: the count is long enough, or it was 1 and step 6 does not clear it
abbrev pub next_good : Model → ℕ → ℕ → Bool
next_good m i v = nat_le (good_delay m.settings) (next_count m i v) || (m.good && not (critical m i v && guards m.pins.prot))

-- the seven steps
abbrev pub measured : Model → ℕ → ℕ → Model
measured m i v =
    record {
      pins = m.pins;
      settings = m.settings;
      current = sampled m Current i m.current;
      voltage = sampled m Voltage v m.voltage;
      logs = logs (λ q. cond (logs_at m i v q) true (has q m.logs));
      latched = cond (critical m i v && latches m.pins.prot) true m.latched;
      good = next_good m i v;
      good_count = next_count m i v;
      earlier = compares (positive m i v);
    }
