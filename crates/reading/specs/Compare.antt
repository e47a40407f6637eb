-- Two rigs compared by their reports: a rig that means m read at a, then one that means n read at b.
use Rattle.std.specs.Prelude.{◌≡◌, ℕ, Bool, cond, ◌&&◌, List, length, Decides}
use Rattle.rig.specs.declared.Refusal.TheVariants.{Silence}
use Rattle.rig.specs.Meaning.{Meaning, hears}
use Rattle.history.specs.Histories.{History, reached}
use Rattle.history.specs.Points.{Agree}
use Rattle.reading.specs.declared.ReadingFault.{ReadingFault}
use Rattle.reading.specs.declared.ReadingFault.TheVariants.{Size, Refused}
use Rattle.reading.specs.Report.{report}
use Rattle.reading.specs.Reading.{sized, read_next}
use Rattle.reading.specs.Laws.{Ready}

-- both buffers are tested ahead of every call
abbrev pub both_sized : ℕ → ℕ → Bool
both_sized first second = sized first && sized second

-- the first reading finishes, and both do
abbrev pub first_finishes : Meaning → ℕ → ℕ → ℕ → Bool
first_finishes m a first second = both_sized first second && hears m a

abbrev pub both_finish : Meaning → ℕ → ℕ → Meaning → ℕ → ℕ → Bool
both_finish m a first n b second = first_finishes m a first second && hears n b

abbrev pub compare_fault : ℕ → ℕ → ReadingFault
compare_fault first second = cond (both_sized first second) (Refused Silence) Size

-- ---- what it leaves: the second rig is read only where the first reading finished

abbrev pub first_next : Meaning → ℕ → ℕ → ℕ → Meaning
first_next m a first second = cond (both_sized first second) (read_next m a first) m

abbrev pub second_next : Meaning → ℕ → ℕ → Meaning → ℕ → ℕ → Meaning
second_next m a first n b second = cond (first_finishes m a first second) (read_next n b second) n

abbrev pub first_buffer : Meaning → ℕ → List ℕ → ℕ → List ℕ
first_buffer m a before second = cond (first_finishes m a (length before) second) (report m.part) before

abbrev pub second_buffer : Meaning → ℕ → ℕ → Meaning → ℕ → List ℕ → List ℕ
second_buffer m a first n b before = cond (both_finish m a first n b (length before)) (report n.part) before

-- ---- the promise: for all two histories that the two rigs stand at

-- both readings finish exactly where each rig is ready for its own
abbrev pub BothFinish : Meaning → ℕ → ℕ → Meaning → ℕ → ℕ → Bool → Type 0
BothFinish m a first n b second ok = (h k : History) → m ≡ reached h → n ≡ reached k → Decides ok (Ready h a first × Ready k b second)

-- and then the two reports are the same exactly where the histories agree on the six points
abbrev pub TellsApart : Meaning → Meaning → Bool → Type 0
TellsApart m n same = (h k : History) → m ≡ reached h → n ≡ reached k → Decides same (Agree h k)
