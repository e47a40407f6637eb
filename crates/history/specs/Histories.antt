-- A history of a rig: what it started from, and every call tried on it since, done or refused; and what happened to its part by that.
use Rattle.std.specs.Prelude.{ℕ, ◌+◌, ◌≤◌, Bool, true, cond, ◌&&◌, List, [], ◌∷◌, ◌++◌, nat_le}
use Rattle.registers.specs.declared.pins.Pins.{Pins}
use Rattle.part.specs.Model.{powered}
use Rattle.part.specs.Events as part
use Rattle.rig.specs.Meaning.{Meaning, Call, tick, pin, trip, outputs, put, get, block, reaches, ring_at, next}

-- the pins and the silences owed at the start, and the calls, the latest first
pub record History : Type 0 where
  pub pins : Pins
  pub debt : ℕ
  pub calls : List Call

-- a rig after some calls, the latest first
abbrev pub since : Meaning → List Call → Meaning
since m [] = m
since m (c ∷ earlier) = next (since m earlier) c

-- what a rig with this history means now; opaque, so that what stands above goes by the points
unfoldable pub reached : History → Meaning
reached h = since record { part = powered h.pins; owed = h.debt } h.calls

-- the same history with more calls, the latest first
abbrev pub and_then : History → List Call → History
and_then h more = record { pins = h.pins; debt = h.debt; calls = more ++ h.calls }

-- ---- which calls were accepted, said of the calls alone

-- how many of the calls reached the part: each used up a silence while one was owed
abbrev pub heard : Pins → List Call → ℕ
heard p [] = 0
heard p (c ∷ earlier) = cond (reaches (powered p) c) (heard p earlier + 1) (heard p earlier)

-- the call was accepted, n silences being owed at the start: a tick by its samples, a bus call where it reached the part and the earlier ones had used up the debt
abbrev pub accepted : Pins → ℕ → Call → List Call → Bool
accepted p n (tick i v) earlier = nat_le i 1023 && nat_le v 1023
accepted p n (pin w l) earlier = true
accepted p n (trip t) earlier = true
accepted p n outputs earlier = true
accepted p n (put a r x) earlier = reaches (powered p) (put a r x) && nat_le n (heard p earlier)
accepted p n (get a r) earlier = reaches (powered p) (get a r) && nat_le n (heard p earlier)
accepted p n (block a base k) earlier = reaches (powered p) (block a base k) && nat_le n (heard p earlier)

-- what an accepted call is to the part: a look at a register or at the pins is no event
abbrev pub event_of : Call → List part.Event
event_of (tick i v) = part.tick i v ∷ []
event_of (pin w l) = part.pin w l ∷ []
event_of (trip t) = part.trip t ∷ []
event_of outputs = []
event_of (put a r x) = part.write r x ∷ []
event_of (get a r) = []
event_of (block a base k) = part.block (ring_at base) ∷ []

-- the events of the accepted calls, the latest first
abbrev pub happened : Pins → ℕ → List Call → List part.Event
happened p n [] = []
happened p n (c ∷ earlier) = cond (accepted p n c earlier) (event_of c) [] ++ happened p n earlier

unfoldable pub events : History → List part.Event
events h = happened h.pins h.debt h.calls

-- no silence is owed any more
abbrev pub Answers : History → Type 0
Answers h = h.debt ≤ heard h.pins h.calls
