-- A run of events from power-up, the latest first, and what it says of the part that it leads to.
use Rattle.std.specs.Prelude.{◌≡◌, ℕ, ◌<◌, Bool, true, false, cond, ◌||◌, List, [], ◌∷◌, ◌++◌, map, reverse, replicate, ◌==◌, bit_and}
use Rattle.samples.specs.History.{last_fifty}
use Rattle.samples.specs.declared.signal.Signal.{Signal}
use Rattle.registers.specs.declared.pins.Level.{Level}
use Rattle.registers.specs.declared.pins.Pins.{Pins}
use Rattle.registers.specs.declared.causes.Cause.{Cause}
use Rattle.registers.specs.Rows.{mask_of}
use Rattle.registers.specs.Causes.{has}
use Rattle.registers.specs.Questions.{setting}
use Rattle.registers.specs.Settings.{first_byte}
use Rattle.part.specs.declared.events.Pin.{Pin}
use Rattle.part.specs.declared.events.Pin.TheVariants.{On, Pol}
use Rattle.part.specs.declared.replay.Event.{Event as Given}
use Rattle.part.specs.declared.replay.Event.TheVariants as given
use Rattle.part.specs.Model.{Model, powered, monitor, sample}
use Rattle.part.specs.Channel.{majority, channel, falls, forgets}
use Rattle.part.specs.Tick.{lesser, greater, counts, stores, logs_at}
use Rattle.part.specs.Events.{Event, tick, pin, trip, write, block, step, trips, cleared_by}

-- the part after a run of events
abbrev pub ran : Model → List Event → Model
ran m [] = m
ran m (e ∷ earlier) = step (ran m earlier) e

-- and after a run from power-up
abbrev pub after : Pins → List Event → Model
after p es = ran (powered p) es

-- an event as the code has it
abbrev pub told : Given → Event
told (given.Tick s) = tick s.current.value s.voltage.value
told (given.Pin w l) = pin w l
told (given.Trip t) = trip t
told (given.Write n byte) = write n byte
told (given.Block s) = block s

-- events in the order in which they came, turned to the latest first
abbrev pub history : List Given → List Event
history es = reverse (map told es)

-- ---- settings: the last byte written, cut to the bits that the register keeps, or the byte of power-up

abbrev pub setting_of : Pins → ℕ → List Event → ℕ
setting_of p n [] = first_byte p n
setting_of p n (tick i v ∷ es) = setting_of p n es
setting_of p n (pin w l ∷ es) = setting_of p n es
setting_of p n (trip t ∷ es) = setting_of p n es
setting_of p n (write k byte ∷ es) = cond (k == n) (bit_and byte (mask_of n)) (setting_of p n es)
setting_of p n (block s ∷ es) = setting_of p n es

-- ---- pins: as last set, or as at power-up

abbrev pub level : Pin → Pins → Level
level On p = p.on
level Pol p = p.pol

abbrev pub same_pin : Pin → Pin → Bool
same_pin On On = true
same_pin On Pol = false
same_pin Pol On = false
same_pin Pol Pol = true

abbrev pub level_of : Pins → Pin → List Event → Level
level_of p w [] = level w p
level_of p w (tick i v ∷ es) = level_of p w es
level_of p w (pin u l ∷ es) = cond (same_pin u w) l (level_of p w es)
level_of p w (trip t ∷ es) = level_of p w es
level_of p w (write k byte ∷ es) = level_of p w es
level_of p w (block s ∷ es) = level_of p w es

-- ---- the latest sample: that of the last tick, or 0

abbrev pub latest_of : Signal → List Event → ℕ
latest_of s [] = 0
latest_of s (tick i v ∷ es) = sample s i v
latest_of s (pin w l ∷ es) = latest_of s es
latest_of s (trip t ∷ es) = latest_of s es
latest_of s (write k byte ∷ es) = latest_of s es
latest_of s (block r ∷ es) = latest_of s es

-- ---- rings: the samples that were stored, in their order

abbrev pub stored : Pins → Signal → List Event → List ℕ
stored p s [] = []
stored p s (tick i v ∷ es) = cond (stores (after p es) s) (stored p s es ++ (sample s i v ∷ [])) (stored p s es)
stored p s (pin w l ∷ es) = stored p s es
stored p s (trip t ∷ es) = stored p s es
stored p s (write k byte ∷ es) = stored p s es
stored p s (block r ∷ es) = stored p s es

abbrev pub ring_of : List ℕ → List ℕ
ring_of xs = last_fifty (replicate 50 0 ++ xs)

-- ---- extremes: the samples counted since the last reset, the latest first

-- m is the part before the event
abbrev pub counted_with : Model → Signal → Event → List ℕ → List ℕ
counted_with m s (tick i v) xs = cond (counts m s) (sample s i v ∷ xs) xs
counted_with m s (pin w l) xs = xs
counted_with m s (trip t) xs = xs
counted_with m s (write k byte) xs = xs
counted_with m s (block r) xs = xs

abbrev pub counted : Pins → Signal → List Event → List ℕ
counted p s [] = []
counted p s (e ∷ es) = cond (forgets (channel (after p es)) (after p (e ∷ es)) s) [] (counted_with (after p es) s e (counted p s es))

abbrev pub least : List ℕ → ℕ
least [] = 1023
least (x ∷ xs) = lesser x (least xs)

abbrev pub greatest : List ℕ → ℕ
greatest [] = 0
greatest (x ∷ xs) = greater x (greatest xs)

-- the extremes of the samples counted, and 1023 with 0 exactly where there are none
pub record ExtremesOf (xs : List ℕ) (smallest largest : ℕ) : Type 0 where
  pub smallest_is : smallest ≡ least xs
  pub largest_is : largest ≡ greatest xs
  pub none_counted : smallest ≡ 1023 → largest ≡ 0 → xs ≡ []

-- ---- causes: logged, and not cleared since

-- the event logs the cause, m being the part before it
abbrev pub logs_by : Model → Event → Cause → Bool
logs_by m (tick i v) q = logs_at m i v q
logs_by m (pin w l) q = false
logs_by m (trip t) q = trips m t q
logs_by m (write k byte) q = false
logs_by m (block s) q = false

-- the event is a write that clears the cause's register
abbrev pub wipes : Event → Cause → Bool
wipes (tick i v) q = false
wipes (pin w l) q = false
wipes (trip t) q = false
wipes (write k byte) q = cleared_by k q
wipes (block s) q = false

abbrev pub logged : Pins → Cause → List Event → Bool
logged p q [] = false
logged p q (e ∷ es) =
    cond (wipes e q || falls (majority (after p es)) (after p (e ∷ es))) false
    (cond (logs_by (after p es) e q) true (logged p q es))

-- ---- what holds of the part after every run

pub record Laws (p : Pins) (es : List Event) (m : Model) : Type 0 where
  pub settings : (n : ℕ) → n < 70 → setting m.settings n ≡ setting_of p n es
  pub levels : (w : Pin) → level w m.pins ≡ level_of p w es
  pub latest : (s : Signal) → (monitor s m).latest ≡ latest_of s es
  pub rings : (s : Signal) → (monitor s m).ring ≡ ring_of (stored p s es)
  pub extremes : (s : Signal) → ExtremesOf (counted p s es) (monitor s m).smallest (monitor s m).largest
  pub causes : (q : Cause) → has q m.logs ≡ logged p q es
  pub good_on : m.good ≡ true → channel m ≡ true
  pub latched_on : m.latched ≡ true → majority m ≡ true
