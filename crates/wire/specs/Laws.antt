-- What lists of levels come to: calls, and nothing else.
use Rattle.std.specs.Prelude.{◌≡◌, ℕ, ◌<◌, ◌≤◌, Bool, true, false, ◌&&◌, List, [], ◌∷◌, length, Ok, Err, Result, nat_lt, slice_index}
use Rattle.bus.specs.declared.levels.Levels.{Levels}
use Rattle.bus.specs.declared.sender.PutFault.{PutFault}
use Rattle.bus.specs.declared.sender.PutFault.TheVariants as put
use Rattle.bus.specs.declared.sender.ReadFault.{ReadFault}
use Rattle.bus.specs.declared.sender.ReadFault.TheVariants as read
use Rattle.bus.specs.Frames.{Driven, put_frame, read_frame}
use Rattle.part.specs.Events.{Event, tick, pin, trip, write, block}
use Rattle.part.specs.Model.{Model}
use Rattle.part.specs.Runs.{ran}
use Rattle.rig.specs.declared.Refusal.TheVariants.{Silence}
use Rattle.rig.specs.Meaning.{Call, put as puts, get as gets, block as blocks, Answer, done, byte, bytes, refused, sized, ring_base, answer, next}
use Rattle.wire.specs.Lines.{Line}
use Rattle.wire.specs.Receive.{received}
use Rattle.wire.specs.Rests.{Receives, rests, meaning_of}

-- ---- any list of levels

abbrev pub received_all : Line → List Levels → Line
received_all r [] = r
received_all r (l ∷ ls) = received_all (received r l) ls

-- what the bus can bring to a part: a byte written, whole, or a ring stopped
abbrev pub from_bus : Event → Bool
from_bus (tick i v) = false
from_bus (pin w l) = false
from_bus (trip t) = false
from_bus (write n x) = nat_lt x 256
from_bus (block s) = true

abbrev pub all_from_bus : List Event → Bool
all_from_bus [] = true
all_from_bus (e ∷ es) = from_bus e && all_from_bus es

-- some such events, and no others, lead from one part to the other
abbrev pub OnlyCalls : Model → Model → Type 0
OnlyCalls p q = (es : List Event) × (all_from_bus es ≡ true) × (q ≡ ran p es)

-- ---- the frame of a call, to a receiver at rest

-- how a call ended, as an answer: g where every byte was acknowledged
abbrev pub told_as : {F : Type 0} → Answer → Result (Unit {0}) F → Answer
told_as g (Ok u) = g
told_as g (Err f) = refused Silence

-- from v to w the call was done, or met by silence, as a rig means it, and the receiver is at rest again
pub record Does (v w : Line) (c : Call) (told : Answer) : Type 0 where
  pub answers : told ≡ answer (meaning_of v) c
  pub after : meaning_of w ≡ next (meaning_of v) c
  pub rested : rests w ≡ true

-- over anything that takes levels and is viewed as a line: a frame that a sender has driven through one at rest, however it ended, is its call and no other
module _ {A : Type 0} (view : A → Line) (takes : A → Levels → Bool → A → Type 0) where
  abbrev pub PutFrames : Type 0
  PutFrames = (s t : A) (a r x : ℕ) (f : Result (Unit {0}) PutFault) → rests (view s) ≡ true → r ≤ 0x45 → x < 256
      → (128 ≤ a → f ≡ Err put.Address) → Driven takes s (put_frame a r x f) t → Does (view s) (view t) (puts a r x) (told_as done f)

  abbrev pub GetFrames : Type 0
  GetFrames = (s t : A) (a r : ℕ) (ns : List ℕ) (f : Result (Unit {0}) ReadFault) → rests (view s) ≡ true → r ≤ 0x45 → length ns ≡ 1 → ((k : ℕ) → slice_index ns k < 256)
      → (128 ≤ a → f ≡ Err read.Address) → Driven takes s (read_frame a r ns f) t → Does (view s) (view t) (gets a r) (told_as (byte (slice_index ns 0)) f)

  abbrev pub BlockFrames : Type 0
  BlockFrames = (s t : A) (a base : ℕ) (ns : List ℕ) (f : Result (Unit {0}) ReadFault) → rests (view s) ≡ true → sized (length ns) ≡ true → ring_base base ≡ true → ((k : ℕ) → slice_index ns k < 256)
      → (128 ≤ a → f ≡ Err read.Address) → Driven takes s (read_frame a base ns f) t → Does (view s) (view t) (blocks a base (length ns)) (told_as (bytes ns) f)

  pub record Frames : Type 0 where
    pub puts : PutFrames
    pub gets : GetFrames
    pub blocks : BlockFrames

-- of lines, which are their own view
abbrev pub FramesAreCalls : Type 0
FramesAreCalls = Frames (λ v. v) Receives
