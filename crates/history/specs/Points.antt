-- The six points of a history, and what it is for two histories to agree on them.
use Rattle.std.specs.Prelude.{◌≡◌, ℕ, ◌/◌, Bool, true, cond, List, [], ◌∷◌, map, Some, None, Option}
use Rattle.samples.specs.declared.signal.Signal.{Signal}
use Rattle.registers.specs.declared.pins.Level.{Level}
use Rattle.registers.specs.declared.pins.Strap.{Strap}
use Rattle.registers.specs.declared.causes.Cause.{Cause}
use Rattle.registers.specs.Rows.{listed}
use Rattle.registers.specs.Questions.{bit, run_weight}
use Rattle.part.specs.declared.events.Pin.{Pin}
use Rattle.part.specs.Runs.{after, setting_of, level_of, latest_of, stored, ring_of, counted, least, greatest, logged}
use Rattle.history.specs.Histories.{History, events}

-- settings: the last accepted write, cut to the bits that the register keeps, or the byte of power-up
unfoldable pub setting_point : History → ℕ → ℕ
setting_point h n = setting_of h.pins n (events h)

-- PROT is as at power-up, ON and POL as last set, power-good as the rules leave it
abbrev pub prot_point : History → Strap
prot_point h = h.pins.prot

unfoldable pub level_point : History → Pin → Level
level_point h w = level_of h.pins w (events h)

unfoldable pub good_point : History → Bool
good_point h = (after h.pins (events h)).good

-- the latest sample: that of the last accepted tick, or 0
unfoldable pub latest_point : History → Signal → ℕ
latest_point h s = latest_of s (events h)

-- extremes: the least and the greatest of the samples counted since the last reset, or none
abbrev pub smallest_of : List ℕ → Option ℕ
smallest_of [] = None
smallest_of (x ∷ xs) = Some (least (x ∷ xs))

abbrev pub largest_of : List ℕ → Option ℕ
largest_of [] = None
largest_of (x ∷ xs) = Some (greatest (x ∷ xs))

unfoldable pub smallest_point : History → Signal → Option ℕ
smallest_point h s = smallest_of (counted h.pins s (events h))

unfoldable pub largest_point : History → Signal → Option ℕ
largest_point h s = largest_of (counted h.pins s (events h))

-- causes: logged, and not cleared since
unfoldable pub cause_point : History → Cause → Bool
cause_point h q = logged h.pins q (events h)

-- the ring's own resolution bit: 1 means high bytes only
abbrev pub short_point : History → Signal → Bool
short_point h s = bit (run_weight s) (setting_point h 0x3F)

-- samples as fine as that: whole, or their high eight bits
abbrev pub as_fine : Bool → List ℕ → List ℕ
as_fine short xs = cond short (map (λ x. x / 4) xs) xs

-- rings: the last fifty of fifty zeros and the samples stored, as fine as the ring's resolution bit
unfoldable pub ring_point : History → Signal → List ℕ
ring_point h s = as_fine (short_point h s) (ring_of (stored h.pins s (events h)))

pub record Agree (h k : History) : Type 0 where
  pub settings : (n : ℕ) → listed n ≡ true → setting_point h n ≡ setting_point k n
  pub prot : prot_point h ≡ prot_point k
  pub levels : (w : Pin) → level_point h w ≡ level_point k w
  pub good : good_point h ≡ good_point k
  pub latest : (s : Signal) → latest_point h s ≡ latest_point k s
  pub smallest : (s : Signal) → smallest_point h s ≡ smallest_point k s
  pub largest : (s : Signal) → largest_point h s ≡ largest_point k s
  pub causes : (q : Cause) → cause_point h q ≡ cause_point k q
  pub rings : (s : Signal) → ring_point h s ≡ ring_point k s
