-- A receiver as a bus, a receiver at rest, and what it means as a rig.
use Rattle.std.specs.Prelude.{◌≡◌, ◌<◌, ℕ, Bool, true, false, ◌&&◌, Ok, Err, Result}
use Rattle.bus.specs.declared.levels.Levels.{Levels}
use Rattle.bus.specs.Frames.{pair}
use Rattle.rig.specs.declared.Refusal.{Refusal}
use Rattle.rig.specs.declared.Refusal.TheVariants.{Silence}
use Rattle.rig.specs.Meaning.{Meaning}
use Rattle.wire.specs.declared.receiver.Phase.{Phase}
use Rattle.wire.specs.declared.receiver.Phase.TheVariants.{Idle, Address, Register, Data, Acknowledge, Acknowledged, Send, Sent}
use Rattle.wire.specs.Lines.{Line, Behind}
use Rattle.wire.specs.Receive.{received, to_send}

-- a pair of levels is taken, and SDA answered; what is to be sent is a byte
pub record Receives (r : Line) (l : Levels) (a : Bool) (s : Line) : Type 0 where
  pub goes : s ≡ received r l
  pub says : a ≡ s.drives
  pub fits : to_send s.behind < 256

-- both wires high, no pull, and nothing under way
abbrev pub rest : ℕ → Behind → Line
rest owed b = record { levels = pair true true; drives = true; phase = Idle; owed = owed; behind = b }

abbrev pub is_idle : Phase → Bool
is_idle Idle = true
is_idle (Address s) = false
is_idle (Register s) = false
is_idle (Data s) = false
is_idle (Acknowledge n) = false
is_idle (Acknowledged n) = false
is_idle (Send s) = false
is_idle Sent = false

-- the receiver is at rest
abbrev pub rests : Line → Bool
rests r = (r.levels.scl && r.levels.sda) && (r.drives && is_idle r.phase)

abbrev pub meaning_of : Line → Meaning
meaning_of r = record { part = r.behind.part; owed = r.owed }

-- a missing acknowledge, of whichever byte, is silence
abbrev pub or_silence : {F : Type 0} → Result (Unit {0}) F → Result (Unit {0}) Refusal
or_silence (Ok u) = Ok u
or_silence (Err f) = Err Silence
