-- A reading: what it answers, and what it leaves in the rig and in the caller's buffer.
use Rattle.std.specs.Prelude.{ℕ, Bool, cond, ◌&&◌, List, length, Ok, Err, Result, ◌==◌}
use Rattle.samples.specs.declared.signal.Signal.{Signal}
use Rattle.samples.specs.declared.signal.Signal.TheVariants.{Current, Voltage}
use Rattle.part.specs.Events.{step, block as read_out}
use Rattle.rig.specs.declared.Refusal.TheVariants.{Silence}
use Rattle.rig.specs.Refusals.{number_of}
use Rattle.rig.specs.Meaning.{Meaning, get, hears, next}
use Rattle.reading.specs.declared.ReadingFault.{ReadingFault}
use Rattle.reading.specs.declared.ReadingFault.TheVariants.{Size, Refused}
use Rattle.reading.specs.Report.{report}

-- a buffer of another size is 5; the rig's refusal keeps its own number
abbrev pub fault_number : ReadingFault → ℕ
fault_number Size = 5
fault_number (Refused e) = number_of e

-- a buffer of this many bytes takes a report
abbrev pub sized : ℕ → Bool
sized size = size == 270

-- the reading is not refused
abbrev pub finishes : Meaning → ℕ → ℕ → Bool
finishes m a size = sized size && hears m a

-- the buffer is tested ahead of every call; a silence meets the first get
abbrev pub read_result : Meaning → ℕ → ℕ → Result (Unit {0}) ReadingFault
read_result m a size = cond (sized size) (cond (hears m a) (Ok tt) (Err (Refused Silence))) (Err Size)

-- a ring of the rig's part is read out, nothing being owed
abbrev pub ring_read : Meaning → Signal → Meaning
ring_read m s = record { part = step m.part (read_out s); owed = m.owed }

-- a finished reading has read out both rings, the voltage ring first; one that met silence has made its first get
abbrev pub read_next : Meaning → ℕ → ℕ → Meaning
read_next m a size = cond (sized size) (cond (hears m a) (ring_read (ring_read m Voltage) Current) (next m (get a 0))) m

abbrev pub read_buffer : Meaning → ℕ → List ℕ → List ℕ
read_buffer m a before = cond (finishes m a (length before)) (report m.part) before
