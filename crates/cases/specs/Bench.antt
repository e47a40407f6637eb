-- The cases that are tried first on a bench, each for every part, rig or sample that it holds of.
use Rattle.std.specs.Prelude.{◌≡◌, ℕ, ◌+◌, ◌*◌, ◌/◌, ◌%◌, ◌≤◌, ◌<◌, true, false, ◌&&◌, List, [], ◌∷◌, ◌++◌, map, nat_le}
use Rattle.std.specs.List.{range_with_len}
use Rattle.samples.specs.declared.signal.Signal.{Signal}
use Rattle.registers.specs.declared.pins.Level.TheVariants.{Low}
use Rattle.registers.specs.declared.pins.Pins.{Pins}
use Rattle.registers.specs.declared.causes.Trip.{Trip}
use Rattle.registers.specs.Pins.{bay}
use Rattle.registers.specs.Questions.{en1, en2, runs, good_delay}
use Rattle.part.specs.declared.events.Pin.TheVariants.{On}
use Rattle.part.specs.declared.monitor.RingState.TheVariants.{Running}
use Rattle.part.specs.Model.{Model, powered, monitor, sample}
use Rattle.part.specs.Channel.{majority, channel}
use Rattle.part.specs.Tick.{lesser}
use Rattle.part.specs.Events as part
use Rattle.part.specs.Runs.{ran, after, stored, ring_of}
use Rattle.report.specs.View.{latest_place}
use Rattle.rig.specs.declared.Refusal.{Refusal}
use Rattle.rig.specs.declared.Refusal.TheVariants.{Silence}
use Rattle.rig.specs.Refusals.{number_of}
use Rattle.rig.specs.Meaning.{Meaning, Call, tick, put, get, block, byte, bytes, refused, hears, answer, accepts, reaches, next}
use Rattle.rig.specs.Patience.{eased}
use Rattle.history.specs.Histories.{History, reached}
use Rattle.reading.specs.Report.{report}
use Rattle.cases.specs.Ticks.{ticks, samples, TenBits, AllGood}

-- ---- a sample at full scale, and one past it

-- the two registers of the signal's latest sample read so, at the address a
pub record ReadsBack (m : Meaning) (a : ℕ) (s : Signal) (high low : ℕ) : Type 0 where
  pub high_byte : answer m (get a (latest_place s)) ≡ byte high
  pub low_bits : answer m (get a (latest_place s + 1)) ≡ byte low

-- the call is refused with this number, and changes nothing
pub record RefusedWith (m : Meaning) (c : Call) (number : ℕ) : Type 0 where
  pub refusal : Refusal
  pub answers : answer m c ≡ refused refusal
  pub number_is : number_of refusal ≡ number
  pub after : next m c ≡ m

pub record FullScale : Type 0 where
  -- after a tick that is taken, a sample of 1023 reads FF and 03
  pub reads : (m : Meaning) (a i v : ℕ) (s : Signal) → hears m a ≡ true → accepts m (tick i v) ≡ true → sample s i v ≡ 1023 → ReadsBack (next m (tick i v)) a s 0xFF 0x03
  -- from 1024 on a sample of either signal is refused with number 1
  pub past : (m : Meaning) (i v : ℕ) (s : Signal) → 1024 ≤ sample s i v → RefusedWith m (tick i v) 1

-- ---- readouts of the voltage ring

-- a rig of the payload bay's part after these events, the latest first; no silence is owed
abbrev pub rig_after : List part.Event → Meaning
rig_after es = record { part = after bay es; owed = 0 }

-- the voltages step, 2 * step, ..
abbrev pub rising : ℕ → ℕ → ℕ
rising step k = step * (k + 1)

-- two bytes a sample: the high eight bits, and then the low two
abbrev pub two_bytes : List ℕ → List ℕ
two_bytes [] = []
two_bytes (x ∷ xs) = x / 4 ∷ x % 4 ∷ two_bytes xs

pub record Readouts : Type 0 where
  -- after 1 to 51 it reads out, in full, from 3 on to 51, and then 2
  pub full : (i : ℕ → ℕ) → answer (rig_after (ticks i (rising 1) 51 ++ (part.write 0x3F 0 ∷ []))) (block 0x3A 0x46 100) ≡ bytes (two_bytes (map (λ k. k + 3) (range_with_len 0 49) ++ (2 ∷ [])))
  -- after 4, 8, .. 200 it reads out, short, from 2 on to 50, then 1, and then 2 once more
  pub short : (i : ℕ → ℕ) → answer (rig_after (ticks i (rising 4) 50)) (block 0x3A 0x46 51) ≡ bytes (map (λ k. k + 2) (range_with_len 0 49) ++ (1 ∷ 2 ∷ []))

-- ---- the stop delay

-- after these events the channel is on and the signal's ring runs
pub record Recording (p : Pins) (es : List part.Event) (s : Signal) : Type 0 where
  pub on : channel (after p es) ≡ true
  pub running : (monitor s (after p es)).state ≡ Running
  pub run_bit : runs (after p es).settings s ≡ true

-- a stop delay is written, a trip turns the channel off, and n ticks come
abbrev pub shut_off : ℕ → Trip → (ℕ → ℕ) → (ℕ → ℕ) → ℕ → List part.Event → List part.Event
shut_off delay t i v n es = ticks i v n ++ (part.trip t ∷ part.write 0x40 delay ∷ es)

pub record StopDelay : Type 0 where
  -- of the n samples the ring stores the first, as many as the delay: the six bits that its register keeps, and at most 50
  pub stores_first : (p : Pins) (es : List part.Event) (s : Signal) → Recording p es s → (delay : ℕ) (t : Trip) (i v : ℕ → ℕ) (n : ℕ)
      → (monitor s (after p (shut_off delay t i v n es))).ring ≡ ring_of (stored p s es ++ samples s i v (lesser n (lesser (delay % 64) 50)))
  -- so it is in the payload bay's part from power-up on: 2 stores two of five, 0 none, and 63 fifty of sixty
  pub at_power_up : (s : Signal) → Recording bay [] s
  pub two : (s : Signal) (t : Trip) (i v : ℕ → ℕ) → (monitor s (after bay (shut_off 2 t i v 5 []))).ring ≡ ring_of (samples s i v 2)
  pub none : (s : Signal) (t : Trip) (i v : ℕ → ℕ) → (monitor s (after bay (shut_off 0 t i v 5 []))).ring ≡ ring_of []
  pub fifty : (s : Signal) (t : Trip) (i v : ℕ → ℕ) → (monitor s (after bay (shut_off 63 t i v 60 []))).ring ≡ ring_of (samples s i v 50)

-- ---- power-good

pub record PowerGood : Type 0 where
  -- good ticks are counted, up to 4000
  pub counted : (m : Model) (i v : ℕ → ℕ) (n : ℕ) → m.good_count ≤ 4000 → AllGood m i v n → (ran m (ticks i v n)).good_count ≡ lesser (m.good_count + n) 4000
  -- and make power-good with the tick that makes them as many as the delay
  pub good : (m : Model) (i v : ℕ → ℕ) (n : ℕ) → m.good ≡ false → m.good_count < good_delay m.settings → AllGood m i v n → (ran m (ticks i v n)).good ≡ nat_le (good_delay m.settings) (m.good_count + n)
  -- every tick of the payload bay's part from power-up on is good: power-good is 0 after 499, and 1 after 500
  pub all_good : (i v : ℕ → ℕ) (n : ℕ) → TenBits v n → AllGood (powered bay) i v n
  pub not_yet : (i v : ℕ → ℕ) → TenBits v 499 → (after bay (ticks i v 499)).good ≡ false
  pub just : (i v : ℕ → ℕ) → TenBits v 500 → (after bay (ticks i v 500)).good ≡ true

-- ---- the latch

-- ON falls, alone
pub record Latch : Type 0 where
  -- with EN1 and EN2 at 1 a latched part stays latched
  pub stays : (m : Model) → m.latched ≡ true → en1 m.settings ≡ true → en2 m.settings ≡ true → (part.step m (part.pin On Low)).latched ≡ true
  -- with either at 0, and M at 1 till then, it does not
  pub clears : (m : Model) → majority m ≡ true → (en1 m.settings && en2 m.settings) ≡ false → (part.step m (part.pin On Low)).latched ≡ false

-- ---- patience

-- under patience 2 two calls are refused with silence, which is number 4, and the third is done
pub record ThirdDone (m : Meaning) (c d e : Call) : Type 0 where
  pub first : answer (eased m 2) c ≡ refused Silence
  pub second : answer (next (eased m 2) c) d ≡ refused Silence
  pub number : number_of Silence ≡ 4
  pub part_kept : (next (next (eased m 2) c) d).part ≡ m.part
  pub third : accepts (next (next (eased m 2) c) d) e ≡ true

-- so it is with any three calls that reach the part of a rig that owes 7 silences
abbrev pub SevenSilences : Type 0
SevenSilences = (m : Meaning) (c d e : Call) → m.owed ≡ 7 → reaches m.part c ≡ true → reaches m.part d ≡ true → reaches m.part e ≡ true → ThirdDone m c d e

-- ---- reports

-- the payload bay's rig: a set-up, and then the voltages 4, x and 20
abbrev pub dipped : List Call → (ℕ → ℕ) → ℕ → History
dipped setup i x = record { pins = bay; debt = 0; calls = tick (i 2) 20 ∷ tick (i 1) x ∷ tick (i 0) 4 ∷ setup }

abbrev pub report_on : History → List ℕ
report_on h = report (reached h).part

-- both rings go to full resolution; at power-up they are short
abbrev pub to_full : List Call
to_full = put 0x3A 0x3F 0 ∷ []

pub record Reports : Type 0 where
  -- in short a sample between the extremes shows by its high byte alone, and so 9 as 10
  pub by_high_byte : (i : ℕ → ℕ) (x y : ℕ) → TenBits i 3 → 4 ≤ x → x ≤ 20 → 4 ≤ y → y ≤ 20 → x / 4 ≡ y / 4 → report_on (dipped [] i x) ≡ report_on (dipped [] i y)
  pub same_in_short : (i : ℕ → ℕ) → TenBits i 3 → report_on (dipped [] i 9) ≡ report_on (dipped [] i 10)
  -- in full it shows whole, and 9 is not 10
  pub by_sample : (i : ℕ → ℕ) (x y : ℕ) → TenBits i 3 → x ≤ 1023 → y ≤ 1023 → report_on (dipped to_full i x) ≡ report_on (dipped to_full i y) → x ≡ y
  pub apart_in_full : (i : ℕ → ℕ) → TenBits i 3 → report_on (dipped to_full i 9) ≡ report_on (dipped to_full i 10) → ⊥

-- ---- all of them

pub record Bench : Type 0 where
  pub full_scale : FullScale
  pub readouts : Readouts
  pub stop_delay : StopDelay
  pub power_good : PowerGood
  pub latch : Latch
  pub silences : SevenSilences
  pub reports : Reports
