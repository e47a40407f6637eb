-- A reading, finished or refused, by what its parts tell.
use Rattle.std.proofs.Common.{◌≡◌, ℕ, ◌+◌, true, false, cond, ◌&&◌, List, ◌++◌, map, length, get_or, Ok, Err, Result, sym, refl, ap, ◌∙◌, lit<}
use Rattle.std.specs.List.{range_with_len}
use Rattle.std.proofs.lemmas.List.FromFn.{get_or-map-range_with_len}
use Rattle.std.proofs.lemmas.Bool.{eq-eqb, ne_eqb}
use Rattle.samples.specs.History.{sample_at}
use Rattle.samples.specs.declared.signal.Signal.{Signal}
use Rattle.samples.specs.declared.signal.Signal.TheVariants.{Current, Voltage}
use Rattle.registers.specs.Questions.{setting, resolution}
use Rattle.part.specs.Model.{Model, monitor}
use Rattle.part.specs.Shown.{shown}
use Rattle.part.specs.Events.{step, block as read_out}
use Rattle.part.proofs.Steps.{block_settings, block_ring}
use Rattle.rig.specs.declared.Refusal.TheVariants.{Silence}
use Rattle.rig.specs.Meaning.{Meaning, get, hears, next}
use Rattle.reading.specs.declared.ReadingFault.{ReadingFault}
use Rattle.reading.specs.declared.ReadingFault.TheVariants.{Size, Refused}
use Rattle.reading.specs.Report.{registers, as_told, ring_told, words, report}
use Rattle.reading.specs.Reading.{sized, read_result, ring_read, read_next, read_buffer}

-- the resolution bits among the registers
pub bits_read : (m : Meaning) (bytes : List ℕ) → bytes ≡ registers m.part → get_or bytes 0x3F 0 ≡ setting m.part.settings 0x3F
unfolding registers shown
bits_read m bytes is = ap (λ x. get_or x 0x3F 0) is ∙ get_or-map-range_with_len (shown m.part) 0 70 0x3F 0x3F 0 (lit< tt) refl

-- a ring that was read out leaves what the other reads
pub still_hears : (m : Meaning) (a : ℕ) (s : Signal) → hears m a ≡ true → hears (ring_read m s) a ≡ true
unfolding step
still_hears m a s on = on

pub still_bits : (m : Meaning) (s : Signal) → setting (ring_read m s).part.settings 0x3F ≡ setting m.part.settings 0x3F
still_bits m s = ap (λ x. setting x 0x3F) (block_settings m.part s)

pub still_told : (p : Model) (s w : Signal) → ring_told (step p (read_out s)) w ≡ ring_told p w
unfolding ring_told
still_told p s w =
    ap (λ x. map (λ k. as_told (resolution x w) (sample_at (monitor w (step p (read_out s))).ring (k + 49))) (range_with_len 0 50)) (block_settings p s)
    ∙ ap (λ x. map (λ k. as_told (resolution p.settings w) (sample_at x (k + 49))) (range_with_len 0 50)) (block_ring p s w)

-- a reading that answered r, and left the rig as n and the buffer as after
pub record Read (m : Meaning) (a : ℕ) (before : List ℕ) (r : Result (Unit {0}) ReadingFault) (n : Meaning) (after : List ℕ) : Type 0 where
  pub answers : r ≡ read_result m a (length before)
  pub left : n ≡ read_next m a (length before)
  pub written : after ≡ read_buffer m a before

module _ (m : Meaning) (a : ℕ) (before : List ℕ) where
  pub unfit : (length before ≡ 270 → ⊥) → Read m a before (Err Size) m before
  unfit other =
      let no : sized (length before) ≡ false = ne_eqb (length before) 270 other in
      record {
        answers = sym (ap (λ t. cond t (cond (hears m a) (Ok tt) (Err (Refused Silence))) (Err Size)) no);
        left = sym (ap (λ t. cond t (cond (hears m a) (ring_read (ring_read m Voltage) Current) (next m (get a 0))) m) no);
        written = sym (ap (λ t. cond (t && hears m a) (report m.part) before) no);
      }

  module _ (n : Meaning) (size : length before ≡ 270) where
    fits : sized (length before) ≡ true
    fits = eq-eqb (length before) 270 size

    pub unanswered : hears m a ≡ false → n ≡ next m (get a 0) → Read m a before (Err (Refused Silence)) n before
    unanswered off is = record {
      answers = sym (ap (λ t. cond t (cond (hears m a) (Ok tt) (Err (Refused Silence))) (Err Size)) fits ∙ ap (λ t. cond t (Ok tt) (Err (Refused Silence))) off);
      left = is ∙ sym (ap (λ t. cond t (cond (hears m a) (ring_read (ring_read m Voltage) Current) (next m (get a 0))) m) fits ∙ ap (λ t. cond t (ring_read (ring_read m Voltage) Current) (next m (get a 0))) off);
      written = sym (ap (λ t. cond (t && hears m a) (report m.part) before) fits ∙ ap (λ t. cond t (report m.part) before) off);
    }

    pub finished : (after : List ℕ) → hears m a ≡ true → n ≡ ring_read (ring_read m Voltage) Current → (rs v i : List ℕ) → rs ≡ registers m.part → v ≡ ring_told m.part Voltage → i ≡ ring_told m.part Current
        → after ≡ rs ++ (words v ++ words i) → Read m a before (Ok tt) n after
    unfolding report
    finished after on is rs v i r e f w = record {
      answers = sym (ap (λ t. cond t (cond (hears m a) (Ok tt) (Err (Refused Silence))) (Err Size)) fits ∙ ap (λ t. cond t (Ok tt) (Err (Refused Silence))) on);
      left = is ∙ sym (ap (λ t. cond t (cond (hears m a) (ring_read (ring_read m Voltage) Current) (next m (get a 0))) m) fits ∙ ap (λ t. cond t (ring_read (ring_read m Voltage) Current) (next m (get a 0))) on);
      written =
          w
          ∙ ap (λ x. x ++ (words v ++ words i)) r
          ∙ ap (λ x. registers m.part ++ (words x ++ words i)) e
          ∙ ap (λ x. registers m.part ++ (words (ring_told m.part Voltage) ++ words x)) f
          ∙ sym (ap (λ t. cond (t && hears m a) (report m.part) before) fits ∙ ap (λ t. cond t (report m.part) before) on);
    }
