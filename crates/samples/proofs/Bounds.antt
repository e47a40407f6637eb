-- Samples have ten bits by their type, so what a ring shows of them are bytes.
use Rattle.std.proofs.Common.{◌≡◌, ℕ, zero, suc, ◌/◌, ◌%◌, ◌<◌, eqb, List, [], ◌∷◌, get_or, arith, lit<}
use Rattle.std.proofs.lemmas.List.{map-append, take-map, drop-map}
use Rattle.std.proofs.lemmas.Bool.{cond_both}
use Rattle.samples.specs.declared.ring.Ring.{Ring}
use Rattle.samples.specs.declared.ring.Resolution.{Resolution}
use Rattle.samples.specs.declared.ring.Resolution.TheVariants.{Short, Full}
use Rattle.samples.specs.declared.sample.Sample.{Sample}
use Rattle.samples.specs.History.{values, turned, content, readout_order, sample_at, byte_at}

value_below : (xs : List Sample) (k : ℕ) → get_or (values xs) k 0 < 1024
value_below [] k = lit< tt
value_below (x ∷ xs) zero = x.ten_bits
value_below (x ∷ xs) (suc k) = value_below xs k

ordered_values : (xs : List Sample) → readout_order (values xs) ≡ values (turned xs 1)
ordered_values xs = rw (drop-map, take-map, map-append)

pub sample_below : (r : Ring) (k : ℕ) → sample_at (content r) k < 1024
sample_below r k = rw (ordered_values (turned r.samples r.oldest)) (value_below (turned (turned r.samples r.oldest) 1) (k % 50))

pub byte_below : (res : Resolution) (r : Ring) (k : ℕ) → byte_at res (content r) k < 256
byte_below Short r k = omega (arith, sample_below r k)
byte_below Full r k =
    cond_both (eqb (k % 2) 0) (sample_at (content r) (k / 2) / 4) (sample_at (content r) (k / 2) % 4) (λ n. n < 256)
    (λ _. omega (arith, sample_below r (k / 2))) (λ _. omega arith)
