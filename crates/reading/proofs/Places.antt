-- What stands where in a report.
use Rattle.std.proofs.Common.{◌≡◌, ℕ, ◌+◌, ◌-◌, ◌*◌, ◌/◌, ◌%◌, ◌<◌, ◌++◌, length, get_or, ap, ◌∙◌, arith}
use Rattle.std.proofs.lemmas.List.FromFn.{get_or-map-range_with_len, length-map-range_with_len}
use Rattle.std.proofs.lemmas.List.{length-append, get_or_append_left, get_or-append_right}
use Rattle.samples.specs.History.{sample_at}
use Rattle.samples.specs.declared.signal.Signal.{Signal}
use Rattle.samples.specs.declared.signal.Signal.TheVariants.{Current, Voltage}
use Rattle.registers.specs.Questions.{resolution}
use Rattle.part.specs.Model.{Model, monitor}
use Rattle.part.specs.Shown.{shown}
use Rattle.report.specs.View.{ring_place, word_in}
use Rattle.reading.specs.Report.{registers, as_told, ring_told, words, report}
use Rattle.reading.proofs.Words.{length_words, high_word, low_word}

module _ (p : Model) where
  length_registers : length (registers p) ≡ 70
  unfolding registers
  length_registers = length-map-range_with_len (shown p) 0 70

  pub length_told : (s : Signal) → length (ring_told p s) ≡ 50
  unfolding ring_told
  length_told s = length-map-range_with_len (λ k. as_told (resolution p.settings s) (sample_at (monitor s p).ring (k + 49))) 0 50

  pub told_is : (s : Signal) (k : ℕ) → k < 50 → get_or (ring_told p s) k 0 ≡ as_told (resolution p.settings s) (sample_at (monitor s p).ring (k + 49))
  unfolding ring_told
  told_is s k h = get_or-map-range_with_len (λ j. as_told (resolution p.settings s) (sample_at (monitor s p).ring (j + 49))) 0 50 k k 0 h (omega arith)

  length_ring : (s : Signal) → length (words (ring_told p s)) ≡ 100
  length_ring s = let w = length_words (ring_told p s) in let n = length_told s in omega arith

  pub length_report : length (report p) ≡ 270
  unfolding report
  length_report =
      let r = length_registers in
      let v = length_ring Voltage in
      let c = length_ring Current in
      length-append (registers p) _ ∙ ap (λ n. length (registers p) + n) (length-append (words (ring_told p Voltage)) (words (ring_told p Current))) ∙ omega arith

  pub register_at : (n : ℕ) → n < 70 → get_or (report p) n 0 ≡ shown p n
  unfolding report registers
  register_at n h = get_or_append_left (registers p) _ 0 n (let l = length_registers in omega arith) ∙ get_or-map-range_with_len (shown p) 0 70 n n 0 h (omega arith)

  past_registers : (i : ℕ) → get_or (report p) (70 + i) 0 ≡ get_or (words (ring_told p Voltage) ++ words (ring_told p Current)) i 0
  unfolding report
  past_registers i =
      let back : 70 + i - 70 ≡ i = omega arith in
      get_or-append_right (registers p) _ 70 (70 + i) 0 length_registers (omega arith) ∙ ap (λ j. get_or (words (ring_told p Voltage) ++ words (ring_told p Current)) j 0) back

  -- byte i of a ring
  in_ring : (s : Signal) (i : ℕ) → i < 100 → get_or (report p) (ring_place s + i) 0 ≡ get_or (words (ring_told p s)) i 0
  in_ring Voltage i h = past_registers i ∙ get_or_append_left (words (ring_told p Voltage)) _ 0 i (let l = length_ring Voltage in omega arith)
  in_ring Current i h =
      let on : 170 + i ≡ 70 + (100 + i) = omega arith in
      let back : 100 + i - 100 ≡ i = omega arith in
      ap (λ j. get_or (report p) j 0) on
      ∙ past_registers (100 + i)
      ∙ get_or-append_right (words (ring_told p Voltage)) (words (ring_told p Current)) 100 (100 + i) 0 (length_ring Voltage) (omega arith)
      ∙ ap (λ j. get_or (words (ring_told p Current)) j 0) back

  pub sample_at_place : (s : Signal) (k : ℕ) → k < 50 → word_in (report p) (ring_place s + 2 * k) ≡ get_or (ring_told p s) k 0
  sample_at_place s k h =
      let l = length_told s in
      let high : get_or (report p) (ring_place s + 2 * k) 0 ≡ get_or (ring_told p s) k 0 / 256 = in_ring s (2 * k) (omega arith) ∙ high_word (ring_told p s) k (omega arith) in
      let on : ring_place s + 2 * k + 1 ≡ ring_place s + (2 * k + 1) = omega arith in
      let low : get_or (report p) (ring_place s + 2 * k + 1) 0 ≡ get_or (ring_told p s) k 0 % 256 = ap (λ j. get_or (report p) j 0) on ∙ in_ring s (2 * k + 1) (omega arith) ∙ low_word (ring_told p s) k (omega arith) in
      omega arith
