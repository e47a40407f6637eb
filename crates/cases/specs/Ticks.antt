-- Runs of ticks: tick k has the current i k and the voltage v k.
use Rattle.std.specs.Prelude.{◌≡◌, ℕ, zero, suc, ◌≤◌, ◌<◌, true, List, [], ◌∷◌, map}
use Rattle.std.specs.List.{range_with_len}
use Rattle.samples.specs.declared.signal.Signal.{Signal}
use Rattle.part.specs.Model.{Model, sample}
use Rattle.part.specs.Tick.{good_tick}
use Rattle.part.specs.Events.{Event, tick}
use Rattle.part.specs.Runs.{ran}

-- n ticks, the latest first; opaque, so that no goal unfolds hundreds of them
unfoldable pub ticks : (ℕ → ℕ) → (ℕ → ℕ) → ℕ → List Event
ticks i v zero = []
ticks i v (suc n) = tick (i n) (v n) ∷ ticks i v n

-- the first n samples of a signal, in their order
abbrev pub samples : Signal → (ℕ → ℕ) → (ℕ → ℕ) → ℕ → List ℕ
samples s i v n = map (λ k. sample s (i k) (v k)) (range_with_len 0 n)

-- the first n are samples of the converter
abbrev pub TenBits : (ℕ → ℕ) → ℕ → Type 0
TenBits x n = (k : ℕ) → k < n → x k ≤ 1023

-- from m on, each of n ticks finds the channel on and the voltage within its critical limits
abbrev pub AllGood : Model → (ℕ → ℕ) → (ℕ → ℕ) → ℕ → Type 0
AllGood m i v n = (k : ℕ) → k < n → good_tick (ran m (ticks i v k)) (i k) (v k) ≡ true
