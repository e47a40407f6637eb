-- The samples of a ring, told again from its readout.
use Rattle.std.proofs.Common.{◌≡◌, ℕ, ◌+◌, ◌-◌, ◌*◌, ◌/◌, ◌%◌, ◌<◌, true, cond, eqb, List, ◌++◌, map, length, get_or, replicate, sym, refl, ap, ◌∙◌, arith}
use borrow.Rule.Slice.PartMut.{mid_of}
use Rattle.std.specs.List.{range_with_len}
use Rattle.std.proofs.lemmas.List.FromFn.{get_or-map-range_with_len, length-map-range_with_len, fill_by_all}
use Rattle.std.proofs.lemmas.Bool.{cond-true, cond-false, eq-eqb, ne_eqb}
use Rattle.std.proofs.lemmas.List.{get_or_append_left}
use Rattle.samples.specs.History.{readout_order, sample_at, byte_at, readout}
use Rattle.samples.specs.declared.ring.Resolution.{Resolution}
use Rattle.samples.specs.declared.ring.Resolution.TheVariants.{Short, Full}
use Rattle.samples.specs.declared.signal.Signal.{Signal}
use Rattle.samples.specs.declared.signal.Signal.TheVariants.{Current, Voltage}
use Rattle.registers.specs.Questions.{setting, resolution, resolution_of}
use Rattle.part.specs.Model.{monitor}
use Rattle.part.specs.Events.{step, block as read_out}
use Rattle.rig.specs.Meaning.{Meaning, block, sized, ring_base, ring_at, base_of, hears, block_of, accepts, reaches, next, filled}
use Rattle.rig.proofs.Bus.{same_meaning, block_accepted}
use Rattle.reading.specs.Report.{as_told, ring_told}
use Rattle.reading.specs.Reading.{ring_read}
use Rattle.samples.specs.History.{ring_bytes}
use Rattle.reading.specs.Readouts.{turn, told_at}
use Rattle.reading.proofs.Calls.{either_same, nothing_owed}

module _ (xs bytes : List ℕ) where
  same_sample : (k : ℕ) → sample_at xs (turn k) ≡ sample_at xs (k + 49)
  same_sample k = let e : (k + 49) % 50 % 50 ≡ (k + 49) % 50 = omega arith in ap (λ j. get_or (readout_order xs) j 0) e

  full_high : (j : ℕ) → byte_at Full xs (2 * j) ≡ sample_at xs j / 4
  full_high j =
      let even : 2 * j % 2 ≡ 0 = omega arith in
      let half : 2 * j / 2 ≡ j = omega arith in
      cond-true (eqb (2 * j % 2) 0) _ _ (eq-eqb (2 * j % 2) 0 even) ∙ ap (λ i. sample_at xs i / 4) half

  full_low : (j : ℕ) → byte_at Full xs (2 * j + 1) ≡ sample_at xs j % 4
  full_low j =
      let odd : (2 * j + 1) % 2 ≡ 0 → ⊥ = λ e. omega arith in
      let half : (2 * j + 1) / 2 ≡ j = omega arith in
      cond-false (eqb ((2 * j + 1) % 2) 0) _ _ (ne_eqb ((2 * j + 1) % 2) 0 odd) ∙ ap (λ i. sample_at xs i % 4) half

  told_sample : (r : Resolution) → ((j : ℕ) → j < ring_bytes r → get_or bytes j 0 ≡ byte_at r xs j) → (k : ℕ) → told_at r bytes k ≡ as_told r (sample_at xs (k + 49))
  told_sample Short is k =
      let low : turn k < 50 = omega arith in
      ap (λ b. b * 4) (is (turn k) low) ∙ ap (λ x. x / 4 * 4) (same_sample k)
  told_sample Full is k =
      let high : 2 * turn k < 100 = omega arith in
      let low : 2 * turn k + 1 < 100 = omega arith in
      let a : get_or bytes (2 * turn k) 0 ≡ sample_at xs (turn k) / 4 = is (2 * turn k) high ∙ full_high (turn k) in
      let b : get_or bytes (2 * turn k + 1) 0 ≡ sample_at xs (turn k) % 4 = is (2 * turn k + 1) low ∙ full_low (turn k) in
      let whole : get_or bytes (2 * turn k) 0 * 4 + get_or bytes (2 * turn k + 1) 0 ≡ sample_at xs (turn k) = omega arith in
      whole ∙ same_sample k

  pub told_samples : (r : Resolution) → ((j : ℕ) → j < ring_bytes r → get_or bytes j 0 ≡ byte_at r xs j)
      → map (told_at r bytes) (range_with_len 0 50) ≡ map (λ k. as_told r (sample_at xs (k + 49))) (range_with_len 0 50)
  told_samples r is =
      fill_by_all (λ k. as_told r (sample_at xs (k + 49))) (map (told_at r bytes) (range_with_len 0 50)) 50 0 (length-map-range_with_len (told_at r bytes) 0 50)
      (λ k h. get_or-map-range_with_len (told_at r bytes) 0 50 k k 0 h (omega arith) ∙ told_sample r is k)

-- the first bytes of an empty buffer of a hundred
abbrev pub blank : List ℕ
blank = replicate 100 0

pub length_first : (n : ℕ) (r : Resolution) → n ≡ ring_bytes r → length (mid_of 0 (n - 0) blank) ≡ ring_bytes r
length_first n r e = ap (λ k. length (mid_of 0 (k - 0) blank)) e ∙ at r
  where
    at : (r : Resolution) → length (mid_of 0 (ring_bytes r - 0) blank) ≡ ring_bytes r
    at Short = refl
    at Full = refl

-- the resolution by the registers that were read is the part's
pub same_bits : (bytes : List ℕ) (m : Meaning) (s : Signal) (r : Resolution) → r ≡ resolution_of (get_or bytes 0x3F 0) s → get_or bytes 0x3F 0 ≡ setting m.part.settings 0x3F → r ≡ resolution m.part.settings s
same_bits bytes m s r is same = is ∙ ap (λ x. resolution_of x s) same

-- ---- a block of a whole ring, by a rig whose part listens

sized_ring : (r : Resolution) → sized (ring_bytes r) ≡ true
sized_ring Short = refl
sized_ring Full = refl

is_base : (s : Signal) → ring_base (base_of s) ≡ true
is_base Current = refl
is_base Voltage = refl

ring_there : (s : Signal) → ring_at (base_of s) ≡ s
ring_there Current = refl
ring_there Voltage = refl

module _ (m : Meaning) (a : ℕ) (s : Signal) (on : hears m a ≡ true) (r : Resolution) where
  accepted : accepts m (block a (base_of s) (ring_bytes r)) ≡ true
  accepted = block_accepted m m a (base_of s) (ring_bytes r) (sized_ring r) (is_base s) true on

  filled_ring : (entry : List ℕ) → length entry ≡ ring_bytes r → r ≡ resolution m.part.settings s → filled m a (base_of s) entry ≡ readout r (monitor s m.part).ring (ring_bytes r)
  filled_ring entry n fine =
      ap (λ k. cond (accepts m (block a (base_of s) k)) (block_of m.part (base_of s) k) entry) n
      ∙ ap (λ t. cond t (block_of m.part (base_of s) (ring_bytes r)) entry) accepted
      ∙ ap (λ x. readout (resolution m.part.settings x) (monitor x m.part).ring (ring_bytes r)) (ring_there s)
      ∙ ap (λ x. readout x (monitor s m.part).ring (ring_bytes r)) (sym fine)

  pub ring_is_told : (base : ℕ) (entry out rest : List ℕ) → base ≡ base_of s → length entry ≡ ring_bytes r → r ≡ resolution m.part.settings s → out ≡ filled m a base entry
      → map (told_at r (out ++ rest)) (range_with_len 0 50) ≡ ring_told m.part s
  unfolding ring_told
  ring_is_told base entry out rest b n fine is =
      let is_readout : out ≡ readout r (monitor s m.part).ring (ring_bytes r) = is ∙ ap (λ k. filled m a k entry) b ∙ filled_ring entry n fine in
      let size : length out ≡ ring_bytes r = ap length is_readout ∙ length-map-range_with_len (byte_at r (monitor s m.part).ring) 0 (ring_bytes r) in
      told_samples (monitor s m.part).ring (out ++ rest) r
      (λ j h.
      get_or_append_left out rest 0 j (omega arith)
      ∙ ap (λ ys. get_or ys j 0) is_readout
      ∙ get_or-map-range_with_len (byte_at r (monitor s m.part).ring) 0 (ring_bytes r) j j 0 h (omega arith))
      ∙ ap (λ x. map (λ k. as_told x (sample_at (monitor s m.part).ring (k + 49))) (range_with_len 0 50)) fine

  pub ring_next : next m (block a (base_of s) (ring_bytes r)) ≡ ring_read m s
  ring_next =
      let none = nothing_owed m a on in
      let less : m.owed - 1 ≡ m.owed = omega arith in
      same_meaning (next m (block a (base_of s) (ring_bytes r))) (ring_read m s)
      (ap (λ t. cond t (step m.part (read_out (ring_at (base_of s)))) m.part) accepted ∙ ap (λ x. step m.part (read_out x)) (ring_there s))
      (ap (λ o. cond (reaches m.part (block a (base_of s) (ring_bytes r))) o m.owed) less ∙ either_same (reaches m.part (block a (base_of s) (ring_bytes r))) m.owed)

  pub ring_is_read : (base : ℕ) (entry : List ℕ) → base ≡ base_of s → length entry ≡ ring_bytes r → next m (block a base (length entry)) ≡ ring_read m s
  ring_is_read base entry b n = ap (λ k. next m (block a k (length entry))) b ∙ ap (λ k. next m (block a (base_of s) k)) n ∙ ring_next
