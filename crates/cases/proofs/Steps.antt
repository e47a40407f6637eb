-- The cases that are one step: a sample at full scale, the latch, and silences.
use Rattle.std.proofs.Common.{◌≡◌, ℕ, ◌+◌, ◌-◌, ◌/◌, ◌%◌, ◌≤◌, ◌<◌, Bool, true, false, cond, not, ◌&&◌, ◌||◌, eqb, leb, refl, ap, subst, ◌∙◌, ⊎_elim, arith}
use Rattle.std.proofs.lemmas.Bool.{cond-false, le-leb, lt-leb, ne_eqb, cases_lt}
use Rattle.samples.specs.declared.signal.Signal.{Signal}
use Rattle.samples.specs.declared.signal.Signal.TheVariants.{Current, Voltage}
use Rattle.registers.specs.Questions.{en1, en2}
use Rattle.part.specs.Model.{sample}
use Rattle.part.specs.Channel.{two_of, majority}
use Rattle.part.specs.Shown.{shown}
use Rattle.part.specs.Events as part
use Rattle.rig.specs.declared.Refusal.TheVariants.{Sample, Register, Silence}
use Rattle.rig.specs.Meaning.{Meaning, Call, tick, get, byte, refused, hears, answer, accepts, reaches, does, next}
use Rattle.rig.specs.Patience.{eased}
use Rattle.rig.proofs.Bus.{answered_is, accepted_is, silent_is, same_meaning, good, bad}
use Rattle.cases.specs.Bench.{ReadsBack, RefusedWith, FullScale, Latch, SevenSilences}

-- ---- a tick that is taken

module _ (m : Meaning) (a i v : ℕ) (h : hears m a ≡ true) (t : accepts m (tick i v) ≡ true) where
  after_tick : next m (tick i v) ≡ record { part = part.step m.part (part.tick i v); owed = m.owed }
  after_tick = ap (λ t. record { part = cond t (part.step m.part (part.tick i v)) m.part; owed = m.owed }) t

  told : (n x : ℕ) → n ≤ 0x45 → shown (part.step m.part (part.tick i v)) n ≡ x → answer (next m (tick i v)) (get a n) ≡ byte x
  unfolding part.step
  told n x fits is =
      ap (λ q. answer q (get a n)) after_tick
      ∙ ap (λ t. cond t (cond (hears m a) (byte (shown (part.step m.part (part.tick i v)) n)) (refused Silence)) (refused Register)) (le-leb n 0x45 fits)
      ∙ ap (λ t. cond t (byte (shown (part.step m.part (part.tick i v)) n)) (refused Silence)) h
      ∙ ap byte is

  reads_back : (s : Signal) → ReadsBack (next m (tick i v)) a s (sample s i v / 4) (sample s i v % 4)
  unfolding part.step shown
  reads_back Current = record { high_byte = told 0x00 (i / 4) (omega arith) refl; low_bits = told 0x01 (i % 4) (omega arith) refl }
  reads_back Voltage = record { high_byte = told 0x02 (v / 4) (omega arith) refl; low_bits = told 0x03 (v % 4) (omega arith) refl }

current_past : (m : Meaning) (i v : ℕ) → 1024 ≤ i → RefusedWith m (tick i v) 1
current_past m i v past =
    let t : leb i 1023 ≡ false = lt-leb i 1023 (omega arith) in
    record { refusal = Sample Current; answers = rw t; number_is = refl; after = rw t }

voltage_past : (m : Meaning) (i v : ℕ) → i ≤ 1023 → 1024 ≤ v → RefusedWith m (tick i v) 1
voltage_past m i v low past =
    let t : leb i 1023 ≡ true = le-leb i 1023 low in
    let u : leb v 1023 ≡ false = lt-leb v 1023 (omega arith) in
    record { refusal = Sample Voltage; answers = rw (t, u); number_is = refl; after = rw (t, u) }

past : (m : Meaning) (i v : ℕ) (s : Signal) → 1024 ≤ sample s i v → RefusedWith m (tick i v) 1
past m i v Current h = current_past m i v h
past m i v Voltage h = ⊎_elim (λ (low : i < 1024). voltage_past m i v (omega arith) h) (λ (high : 1024 ≤ i). current_past m i v high) (cases_lt i 1024)

pub full_scale : FullScale
full_scale = record {
  reads = λ m a i v s h t is. subst (λ (x : ℕ). ReadsBack (next m (tick i v)) a s (x / 4) (x % 4)) is (reads_back m a i v h t s);
  past = past;
}

-- ---- the latch

kept : (a b l : Bool) → l ≡ true → b ≡ true → cond (a && not b) false l ≡ true
kept true b l e f = rw f e
kept false b l e f = e

cleared : (a b l : Bool) → a ≡ true → b ≡ false → cond (a && not b) false l ≡ false
cleared a b l e f = rw (e, f)

one_of_two : (x y : Bool) → (x && y) ≡ false → ((x && y) || (x && false) || (y && false)) ≡ false
one_of_two true true e = e
one_of_two true false e = refl
one_of_two false true e = refl
one_of_two false false e = refl

pub latch : Latch
unfolding part.step majority
latch = record {
  stays = λ m l e1 e2. kept (majority m) (two_of (en1 m.settings) (en2 m.settings) false) m.latched l (rw (e1, e2));
  clears = λ m on e. cleared (majority m) (two_of (en1 m.settings) (en2 m.settings) false) m.latched on (one_of_two (en1 m.settings) (en2 m.settings) e);
}

-- ---- silences

-- a call that reaches the part of a rig that owes k + 1 silences
module _ (m : Meaning) (c : Call) (k : ℕ) (r : reaches m.part c ≡ true) (owes : m.owed ≡ k + 1) where
  unheard : (reaches m.part c && eqb m.owed 0) ≡ false
  unheard = rw (r, owes, ne_eqb (k + 1) 0 (omega arith))

  silent : answer m c ≡ refused Silence
  silent =
      let s = silent_is m.part c r in
      answered_is m c s.0 ∙ cond-false (reaches m.part c && eqb m.owed 0) (good m.part c) (bad c) unheard ∙ s.1

  one_less : next m c ≡ record { part = m.part; owed = k }
  one_less =
      let t : accepts m c ≡ false = accepted_is m c (silent_is m.part c r).0 ∙ unheard in
      same_meaning (next m c) record { part = m.part; owed = k } (ap (λ x. cond x (does m.part c) m.part) t) (ap (λ x. cond x (m.owed - 1) m.owed) r ∙ omega arith)

heard : (m : Meaning) (c : Call) → reaches m.part c ≡ true → m.owed ≡ 0 → accepts m c ≡ true
heard m c r none = accepted_is m c (silent_is m.part c r).0 ∙ rw (r, none)

pub silences : SevenSilences
silences m c d e seven rc rd re =
    let owes : m.owed / 3 ≡ 2 = ap (λ o. o / 3) seven in
    let one = one_less (eased m 2) c 1 rc owes in
    let two : next (next (eased m 2) c) d ≡ record { part = m.part; owed = 0 } =
    ap (λ n. next n d) one ∙ one_less record { part = m.part; owed = 1 } d 0 rd refl in
    record {
      first = silent (eased m 2) c 1 rc owes;
      second = ap (λ n. answer n d) one ∙ silent record { part = m.part; owed = 1 } d 0 rd refl;
      number = refl;
      part_kept = ap (λ n. n.part) two;
      third = ap (λ n. accepts n e) two ∙ heard record { part = m.part; owed = 0 } e re refl;
    }
