-- What a rig means: its part by the rules, and how many silences it owes; and what each call answers and leaves.
use Rattle.std.specs.Prelude.{◌≡◌, ℕ, ◌-◌, Bool, true, false, cond, ◌&&◌, ◌||◌, List, length, ◌==◌, nat_le, nat_lt}
use Rattle.samples.specs.History.{readout}
use Rattle.samples.specs.declared.signal.Signal.{Signal}
use Rattle.samples.specs.declared.signal.Signal.TheVariants.{Current, Voltage}
use Rattle.registers.specs.declared.pins.Level.{Level}
use Rattle.registers.specs.declared.causes.Trip.{Trip}
use Rattle.registers.specs.Questions.{resolution}
use Rattle.part.specs.declared.Outputs.{Outputs}
use Rattle.part.specs.declared.events.Pin.{Pin}
use Rattle.part.specs.Model.{Model, address, monitor}
use Rattle.part.specs.Shown.{shown, outputs as output_levels}
use Rattle.part.specs.Events as part
use Rattle.rig.specs.declared.Refusal.{Refusal}
use Rattle.rig.specs.declared.Refusal.TheVariants.{Sample, Length, Register, Silence}

-- a silence is an address that is not acknowledged; a part that still boots owes some. The address is the part's own, read off its straps
pub record Meaning : Type 0 where
  pub part : Model
  pub owed : ℕ

-- put has address, register and byte; get has address and register; block has address, ring base and length
pub data Call : Type 0 where
  tick : ℕ → ℕ → Call
  pin : Pin → Level → Call
  trip : Trip → Call
  outputs : Call
  put : ℕ → ℕ → ℕ → Call
  get : ℕ → ℕ → Call
  block : ℕ → ℕ → ℕ → Call

pub data Answer : Type 0 where
  done : Answer
  byte : ℕ → Answer
  bytes : List ℕ → Answer
  levels : Outputs → Answer
  refused : Refusal → Answer

-- ---- the tests

-- a block has 1 to 100 bytes
abbrev pub sized : ℕ → Bool
sized n = nat_lt 0 n && nat_le n 100

-- 0x46 is the base of the voltage ring, 0x47 of the current ring
abbrev pub ring_base : ℕ → Bool
ring_base n = n == 0x46 || n == 0x47

abbrev pub ring_at : ℕ → Signal
ring_at base = cond (base == 0x46) Voltage Current

abbrev pub base_of : Signal → ℕ
base_of Voltage = 0x46
base_of Current = 0x47

-- the part answers at this address: it is its own, and no silence is owed
abbrev pub hears : Meaning → ℕ → Bool
hears m a = a == address m.part && m.owed == 0

-- ---- answers: the tests run in the order of the refusals' numbers

abbrev pub bus_answer : Meaning → ℕ → Answer → Answer
bus_answer m a good = cond (hears m a) good (refused Silence)

abbrev pub block_of : Model → ℕ → ℕ → List ℕ
block_of p base n = readout (resolution p.settings (ring_at base)) (monitor (ring_at base) p).ring n

-- the current is tested first
abbrev pub tick_answer : ℕ → ℕ → Answer
tick_answer i v = cond (nat_le i 1023) (cond (nat_le v 1023) done (refused (Sample Voltage))) (refused (Sample Current))

abbrev pub answer : Meaning → Call → Answer
answer m (tick i v) = tick_answer i v
answer m (pin w l) = done
answer m (trip t) = done
answer m outputs = levels (output_levels m.part)
answer m (put a r x) = cond (nat_le r 0x45) (bus_answer m a done) (refused Register)
answer m (get a r) = cond (nat_le r 0x45) (bus_answer m a (byte (shown m.part r))) (refused Register)
answer m (block a base n) = cond (sized n) (cond (ring_base base) (bus_answer m a (bytes (block_of m.part base n))) (refused Register)) (refused Length)

-- ---- what a call leaves

-- the call passes every test
abbrev pub accepts : Meaning → Call → Bool
accepts m (tick i v) = nat_le i 1023 && nat_le v 1023
accepts m (pin w l) = true
accepts m (trip t) = true
accepts m outputs = true
accepts m (put a r x) = nat_le r 0x45 && hears m a
accepts m (get a r) = nat_le r 0x45 && hears m a
accepts m (block a base n) = (sized n && ring_base base) && hears m a

-- the call passes every test ahead of silence, and its address is the part's
abbrev pub reaches : Model → Call → Bool
reaches p (tick i v) = false
reaches p (pin w l) = false
reaches p (trip t) = false
reaches p outputs = false
reaches p (put a r x) = nat_le r 0x45 && a == address p
reaches p (get a r) = nat_le r 0x45 && a == address p
reaches p (block a base n) = (sized n && ring_base base) && a == address p

-- what an accepted call makes of the part
abbrev pub does : Model → Call → Model
does p (tick i v) = part.step p (part.tick i v)
does p (pin w l) = part.step p (part.pin w l)
does p (trip t) = part.step p (part.trip t)
does p outputs = p
does p (put a r x) = part.step p (part.write r x)
does p (get a r) = p
does p (block a base n) = part.step p (part.block (ring_at base))

-- a refused call leaves the part; one that reaches it while a silence is owed lowers the debt by one
abbrev pub next : Meaning → Call → Meaning
next m c =
    record {
      part = cond (accepts m c) (does m.part c) m.part;
      owed = cond (reaches m.part c) (m.owed - 1) m.owed;
    }

-- the caller's buffer after a block
abbrev pub filled : Meaning → ℕ → ℕ → List ℕ → List ℕ
filled m a base before = cond (accepts m (block a base (length before))) (block_of m.part base (length before)) before

-- a block that is refused ahead of the bus: whatever the rig, that is its answer, and nothing changes
pub record BlockRefused (m : Meaning) (a base n : ℕ) (e : Refusal) : Type 0 where
  pub answers : answer m (block a base n) ≡ refused e
  pub after : next m (block a base n) ≡ m
  pub not_accepted : accepts m (block a base n) ≡ false
