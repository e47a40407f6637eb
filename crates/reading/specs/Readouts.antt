-- What a reading takes from the bytes of a readout.
use Rattle.std.specs.Prelude.{ℕ, ◌+◌, ◌*◌, List, slice_index}
use Rattle.samples.specs.declared.ring.Resolution.{Resolution}
use Rattle.samples.specs.declared.ring.Resolution.TheVariants.{Short, Full}
use Rattle.samples.specs.Places.{onward}

-- where the sample that came k after the oldest stands in a readout, which has the oldest last
abbrev pub turn : ℕ → ℕ
turn k = onward k 49 50

-- that sample, from the bytes
abbrev pub told_at : Resolution → List ℕ → ℕ → ℕ
told_at Short bytes k = slice_index bytes (turn k) * 4
told_at Full bytes k = slice_index bytes (2 * turn k) * 4 + slice_index bytes (2 * turn k + 1)
