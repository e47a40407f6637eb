-- What a ring holds, what a store makes of it, and its readout.
use Rattle.std.specs.Prelude.{ℕ, ◌-◌, ◌/◌, ◌%◌, cond, List, [], ◌∷◌, ◌++◌, map, length, take, drop, ◌==◌, slice_index}
use Rattle.std.specs.List.{range_with_len}
use Rattle.samples.specs.declared.ring.Ring.{Ring}
use Rattle.samples.specs.declared.ring.Resolution.{Resolution}
use Rattle.samples.specs.declared.ring.Resolution.TheVariants.{Short, Full}
use Rattle.samples.specs.declared.sample.Sample.{Sample}

abbrev pub values : List Sample → List ℕ
values xs = map (λ s. s.value) xs

-- a list read from place o on, and round
abbrev pub turned : {X : Type 0} → List X → ℕ → List X
turned xs o = drop o xs ++ take o xs

-- the samples of a ring, the oldest first
abbrev pub content : Ring → List ℕ
content r = values (turned r.samples r.oldest)

-- the oldest leaves, x comes last
abbrev pub pushed : {X : Type 0} → List X → X → List X
pushed xs x = drop 1 xs ++ (x ∷ [])

abbrev pub last_fifty : List ℕ → List ℕ
last_fifty xs = drop (length xs - 50) xs

-- the order of a readout: the next to oldest first, then onward, the oldest last
abbrev pub readout_order : List ℕ → List ℕ
readout_order xs = drop 1 xs ++ take 1 xs

-- sample k of a readout of fifty, which repeat
abbrev pub sample_at : List ℕ → ℕ → ℕ
sample_at xs k = slice_index (readout_order xs) (k % 50)

-- byte k of a readout: a sample's high eight bits, and in full its low two bits after them
abbrev pub byte_at : Resolution → List ℕ → ℕ → ℕ
byte_at Short xs k = sample_at xs k / 4
byte_at Full xs k = cond (k % 2 == 0) (sample_at xs (k / 2) / 4) (sample_at xs (k / 2) % 4)

-- a readout of n bytes
abbrev pub readout : Resolution → List ℕ → ℕ → List ℕ
readout r xs n = map (byte_at r xs) (range_with_len 0 n)

-- how many bytes the readout of a whole ring has
abbrev pub ring_bytes : Resolution → ℕ
ring_bytes Short = 50
ring_bytes Full = 100
