-- What a reading says of the history of the rig that it reads.
use Rattle.std.specs.Prelude.{◌≡◌, ℕ, zero, suc, ◌*◌, ◌<◌, Bool, true, cond, List, [], ◌∷◌, length, Some, Decides, slice_index}
use Rattle.samples.specs.declared.signal.Signal.{Signal}
use Rattle.samples.specs.declared.signal.Signal.TheVariants.{Current, Voltage}
use Rattle.registers.specs.declared.causes.Cause.{Cause}
use Rattle.registers.specs.Pins.{address_of, level_of}
use Rattle.registers.specs.Questions.{resolution}
use Rattle.registers.specs.Rows.{listed}
use Rattle.part.specs.declared.events.Pin.TheVariants.{On, Pol}
use Rattle.rig.specs.Meaning.{Meaning, Call, get, block, hears, base_of}
use Rattle.history.specs.Histories.{History, reached, and_then, Answers}
use Rattle.history.specs.Points.{setting_point, prot_point, level_point, good_point, latest_point, smallest_point, largest_point, cause_point, short_point, ring_point, Agree}
use Rattle.report.specs.View.{setting_in, prot_in, on_in, pol_in, good_in, latest_in, smallest_in, largest_in, cause_in, sample_in}
use Rattle.reading.specs.Report.{report}
use Rattle.samples.specs.History.{ring_bytes}
use Rattle.reading.specs.Reading.{sized}

-- ---- when a reading finishes

-- the buffer has the size of a report, the address is the part's, and no silence is owed
pub record Ready (h : History) (a size : ℕ) : Type 0 where
  pub fits : size ≡ 270
  pub here : a ≡ address_of h.pins.a1 h.pins.a0
  pub answers : Answers h

abbrev pub Finishes : Meaning → ℕ → ℕ → Bool → Type 0
Finishes m a size ok = (h : History) → m ≡ reached h → Decides ok (Ready h a size)

-- ---- what its report shows

-- a sample of the ring's point in ten bits again: a short one is its high eight bits times four
abbrev pub in_ten_bits : Bool → ℕ → ℕ
in_ten_bits short x = cond short (x * 4) x

-- a viewer of the bytes finds the six points of the history
pub record Shows (h : History) (bytes : List ℕ) : Type 0 where
  pub size : length bytes ≡ 270
  pub settings : (n : ℕ) → listed n ≡ true → setting_in bytes n ≡ Some (setting_point h n)
  pub prot : prot_in bytes ≡ Some (prot_point h)
  pub on : level_of (on_in bytes) ≡ level_point h On
  pub pol : level_of (pol_in bytes) ≡ level_point h Pol
  pub good : good_in bytes ≡ good_point h
  pub latest : (s : Signal) → latest_in bytes s ≡ latest_point h s
  pub smallest : (s : Signal) → smallest_in bytes s ≡ smallest_point h s
  pub largest : (s : Signal) → largest_in bytes s ≡ largest_point h s
  pub causes : (q : Cause) → cause_in bytes q ≡ cause_point h q
  pub rings : (s : Signal) (k : ℕ) → k < 50 → sample_in bytes s k ≡ Some (in_ten_bits (short_point h s) (slice_index (ring_point h s) k))

abbrev pub ShowsPoints : Meaning → List ℕ → Type 0
ShowsPoints m bytes = (h : History) → m ≡ reached h → Shows h bytes

-- the bytes are the report of every history that agrees on the six points, and of no other
pub record TellsOf (h k : History) (bytes : List ℕ) : Type 0 where
  pub apart : bytes ≡ report (reached k).part → Agree h k
  pub alike : Agree h k → bytes ≡ report (reached k).part

abbrev pub Tells : Meaning → List ℕ → Type 0
Tells m bytes = (h k : History) → m ≡ reached h → TellsOf h k bytes

-- ---- what it adds to the history

-- gets of the registers below n, the latest first
abbrev pub gets : ℕ → ℕ → List Call
gets a zero = []
gets a (suc n) = get a n ∷ gets a n

abbrev pub ring_block : Meaning → ℕ → Signal → Call
ring_block m a s = block a (base_of s) (ring_bytes (resolution m.part.settings s))

-- the calls of a reading, the latest first: all gets and the two blocks, or the first get, which met silence, or none
abbrev pub tried : Meaning → ℕ → ℕ → List Call
tried m a size = cond (sized size) (cond (hears m a) (ring_block m a Current ∷ ring_block m a Voltage ∷ gets a 70) (get a 0 ∷ [])) []

-- the rig has the history with those calls, and the points are as they were
pub record ReadOn (h : History) (calls : List Call) (n : Meaning) : Type 0 where
  pub now : n ≡ reached (and_then h calls)
  pub kept : Agree h (and_then h calls)

abbrev pub GoesOn : Meaning → ℕ → ℕ → Meaning → Type 0
GoesOn m a size n = (h : History) → m ≡ reached h → ReadOn h (tried m a size) n
