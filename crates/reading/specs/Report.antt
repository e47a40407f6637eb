-- The report on a part: its seventy registers, and then the samples of its voltage ring and of its current ring.
use Rattle.std.specs.Prelude.{ℕ, ◌+◌, ◌*◌, ◌/◌, ◌%◌, List, [], ◌∷◌, ◌++◌, map}
use Rattle.std.specs.List.{range_with_len}
use Rattle.samples.specs.History.{sample_at}
use Rattle.samples.specs.declared.ring.Resolution.{Resolution}
use Rattle.samples.specs.declared.ring.Resolution.TheVariants.{Short, Full}
use Rattle.samples.specs.declared.signal.Signal.{Signal}
use Rattle.samples.specs.declared.signal.Signal.TheVariants.{Current, Voltage}
use Rattle.registers.specs.Questions.{resolution}
use Rattle.part.specs.Model.{Model, monitor}
use Rattle.part.specs.Shown.{shown}

unfoldable pub registers : Model → List ℕ
registers p = map (shown p) (range_with_len 0 70)

-- a sample as a readout of this resolution tells it: a short one is its high byte times four
abbrev pub as_told : Resolution → ℕ → ℕ
as_told Short x = x / 4 * 4
as_told Full x = x

-- the fifty samples of a ring as they are told, the oldest first: a readout has the oldest last, 49 after its first
unfoldable pub ring_told : Model → Signal → List ℕ
ring_told p s = map (λ k. as_told (resolution p.settings s) (sample_at (monitor s p).ring (k + 49))) (range_with_len 0 50)

-- sixteen bits each, the high byte first
abbrev pub words : List ℕ → List ℕ
words [] = []
words (x ∷ xs) = x / 256 ∷ x % 256 ∷ words xs

unfoldable pub report : Model → List ℕ
report p = registers p ++ (words (ring_told p Voltage) ++ words (ring_told p Current))
