-- What a recorder over a bus keeps, at one pair of levels and over a run.
use Rattle.std.specs.Prelude.{◌≡◌, Bool, true, false, cond, List, [], ◌∷◌, ◌++◌, vec_items}
use Rattle.bus.specs.declared.levels.Levels.{Levels}
use Rattle.bus.specs.declared.recorder.Recorded.{Recorded}
use Rattle.bus.specs.declared.recorder.Recorder.{Recorder}
use Rattle.bus.specs.Frames.{Beat, tell, hear, Driven}

abbrev pub entry : Levels → Bool → Recorded
entry l a = record { levels = l; sda = a }

-- the bus below goes by its own relation R; the entry is added or lost, and after a lost one every other is lost
pub record Records {B : Type 0} (R : B → Levels → Bool → B → Type 0) (s : Recorder B) (l : Levels) (a : Bool) (t : Recorder B) : Type 0 where
  pub below : R s.bus l a t.bus
  pub grows : vec_items t.entries ≡ cond t.lost (vec_items s.entries) (vec_items s.entries ++ (entry l a ∷ []))
  pub stays : s.lost ≡ true → t.lost ≡ true

-- entries that go by the beats, one by one
pub data Follows : List Beat → List Recorded → Type 0 where
  ended : Follows [] []
  tells : {l : Levels} {a : Bool} {ks : List Beat} {es : List Recorded} → Follows ks es → Follows (tell l ∷ ks) (entry l a ∷ es)
  hears : {l : Levels} {a : Bool} {ks : List Beat} {es : List Recorded} → Follows ks es → Follows (hear l a ∷ ks) (entry l a ∷ es)

-- over a run: the bus below goes through the same beats, and a record that is complete at the end has grown by entries that follow them
pub record Keeps {B : Type 0} (R : B → Levels → Bool → B → Type 0) (s : Recorder B) (ks : List Beat) (t : Recorder B) : Type 0 where
  pub below : Driven R s.bus ks t.bus
  pub follows : t.lost ≡ false → (es : List Recorded) × (vec_items t.entries ≡ vec_items s.entries ++ es) × Follows ks es

abbrev pub KeepsRuns : {B : Type 0} → (B → Levels → Bool → B → Type 0) → Type 0
KeepsRuns {B = B} R = (s t : Recorder B) (ks : List Beat) → Driven (Records R) s ks t → Keeps R s ks t
