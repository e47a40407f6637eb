-- Two histories that differ in one sample, and their reports.
use Rattle.std.proofs.Common.{◌≡◌, ℕ, zero, suc, ◌+◌, ◌/◌, ◌≤◌, ◌<◌, Bool, true, false, cond, not, ◌&&◌, ◌||◌, leb, List, [], ◌∷◌, ◌++◌, get_or, replicate, Some, sym, refl, ap, ◌∙◌, ltb, arith, lit≤}
use Rattle.std.proofs.lemmas.Bool.{cond_both, le-ltb, and_from, and_left, and_right, cond-true, cond-false, le-leb, lt-leb}
use Rattle.samples.specs.declared.signal.Signal.{Signal}
use Rattle.samples.specs.declared.signal.Signal.TheVariants.{Current, Voltage}
use Rattle.registers.specs.declared.pins.Pins.{Pins}
use Rattle.registers.specs.declared.causes.Cause.{Cause}
use Rattle.registers.specs.declared.causes.Cause.TheVariants as cause
use Rattle.registers.specs.Pins.{bay}
use Rattle.registers.specs.Rows.{mask_of, reset_of}
use Rattle.registers.specs.Settings.{first_bytes}
use Rattle.registers.specs.Questions.{setting, bit, run_weight, resets, holds, good_delay}
use Rattle.part.specs.declared.events.Pin.{Pin}
use Rattle.part.specs.Model.{Model, powered, sample}
use Rattle.part.specs.Channel.{majority, channel, falls, forgets}
use Rattle.part.specs.Tick.{lesser, greater, counts, logs_at}
use Rattle.part.specs.Events as part
use Rattle.part.specs.Runs.{ran, after, setting_of, level_of, latest_of, stored, ring_of, counted, least, greatest, logged}
use Rattle.part.proofs.Steps.{never_falls}
use Rattle.rig.specs.Meaning.{Call, tick}
use Rattle.history.specs.Histories.{History, happened, events, reached}
use Rattle.history.specs.Points.{setting_point, level_point, good_point, latest_point, smallest_of, largest_of, smallest_point, largest_point, cause_point, as_fine, ring_point, Agree}
use Rattle.reading.specs.Laws.{TellsOf}
use Rattle.reading.proofs.Tells.{tells}
use Rattle.cases.specs.Ticks.{ticks, samples, TenBits, AllGood}
use Rattle.cases.specs.Bench.{Recording, dipped, report_on, to_full, Reports}
use Rattle.cases.proofs.Good.{up_to, found_on, settings_kept, ran_on, delay_is, good_is, stored_is}
use Rattle.cases.proofs.Bay.{Wide, wide_all, bay_wide, bay_recording, full_wide, full_recording}

-- ---- a run of good ticks logs nothing before power-good, and its samples count

quiet : (m : Model) (i v : ℕ) (q : Cause) → m.good ≡ false → logs_at m i v q ≡ false
quiet m i v (cause.Trip t) e = refl
quiet m i v (cause.Compare c) e = and_left _ _ (and_right _ m.good e)

unmoved : (m : Model) (i v : ℕ) → falls (majority m) (part.step m (part.tick i v)) ≡ false
unfolding part.step majority
unmoved m i v = never_falls m

counting : (h r c x : Bool) → h ≡ false → r ≡ false → c ≡ true → ((not h && (r || (not c && x))) ≡ false) × ((not h && not r) ≡ true)
counting h r c x e f g = (rw (e, f, g), rw (e, f))

module _ (m : Model) (i v : ℕ) (s : Signal) (held : holds m.settings s ≡ false) (reset : resets m.settings s ≡ false) (on : channel m ≡ true) where
  keeps : forgets (channel m) (part.step m (part.tick i v)) s ≡ false
  unfolding part.step
  keeps = (counting (holds m.settings s) (resets m.settings s) (channel m) (channel (part.step m (part.tick i v))) held reset on).0

  takes : counts m s ≡ true
  takes = (counting (holds m.settings s) (resets m.settings s) (channel m) true held reset on).1

-- the samples, the latest first
abbrev back : Signal → (ℕ → ℕ) → (ℕ → ℕ) → ℕ → List ℕ
back s i v zero = []
back s i v (suc n) = sample s (i n) (v n) ∷ back s i v n

module _ (p : Pins) (es : List part.Event) (i v : ℕ → ℕ) where
  at_tick : (n : ℕ) → after p (ticks i v n ++ es) ≡ ran (after p es) (ticks i v n)
  at_tick n = ran_on (powered p) es i v n

  same_settings : (n : ℕ) → (after p (ticks i v n ++ es)).settings ≡ (after p es).settings
  same_settings n = ap (λ m. m.settings) (at_tick n) ∙ settings_kept (after p es) i v n

  not_good : (n : ℕ) → n < 500 → AllGood (after p es) i v n → (after p es).good ≡ false → (after p es).good_count ≡ 0 → (after p (ticks i v n ++ es)).good ≡ false
  not_good n h all bad none =
      ap (λ m. m.good) (at_tick n)
      ∙ good_is (after p es) i v n bad (let long = (delay_is (after p es).settings).0 in omega arith) all
      ∙ (let long = (delay_is (after p es).settings).0 in lt-leb (good_delay (after p es).settings) ((after p es).good_count + n) (omega arith))

  on_at : (n k : ℕ) → n < k → AllGood (after p es) i v k → channel (after p (ticks i v n ++ es)) ≡ true
  on_at n k h all = ap channel (at_tick n) ∙ found_on (ran (after p es) (ticks i v n)) (i n) (v n) (all n h)

  logged_is : (n : ℕ) (q : Cause) → n ≤ 500 → AllGood (after p es) i v n → (after p es).good ≡ false → (after p es).good_count ≡ 0 → logged p q (ticks i v n ++ es) ≡ logged p q es
  unfolding ticks
  logged_is zero q h all bad none = refl
  logged_is (suc n) q h all bad none =
      let fewer : AllGood (after p es) i v n = λ k l. all k (omega arith) in
      cond-false (falls (majority (after p (ticks i v n ++ es))) (after p (ticks i v (suc n) ++ es))) false _ (unmoved (after p (ticks i v n ++ es)) (i n) (v n))
      ∙ cond-false (logs_at (after p (ticks i v n ++ es)) (i n) (v n) q) true _ (quiet (after p (ticks i v n ++ es)) (i n) (v n) q (not_good n (omega arith) fewer bad none))
      ∙ logged_is n q (omega arith) fewer bad none

  counted_is : (n : ℕ) (s : Signal) → AllGood (after p es) i v n → holds (after p es).settings s ≡ false → resets (after p es).settings s ≡ false → counted p s (ticks i v n ++ es) ≡ back s i v n ++ counted p s es
  unfolding ticks
  counted_is zero s all held reset = refl
  counted_is (suc n) s all held reset =
      let fewer : AllGood (after p es) i v n = λ k l. all k (omega arith) in
      let m = after p (ticks i v n ++ es) in
      let h : holds m.settings s ≡ false = ap (λ b. holds b s) (same_settings n) ∙ held in
      let r : resets m.settings s ≡ false = ap (λ b. resets b s) (same_settings n) ∙ reset in
      let on : channel m ≡ true = on_at n (suc n) (omega arith) all in
      cond-false (forgets (channel m) (after p (ticks i v (suc n) ++ es)) s) [] _ (keeps m (i n) (v n) s h r on)
      ∙ cond-true (counts m s) (sample s (i n) (v n) ∷ counted p s (ticks i v n ++ es)) _ (takes m (i n) (v n) s h r on)
      ∙ ap (λ xs. sample s (i n) (v n) ∷ xs) (counted_is n s fewer held reset)

-- ---- set-ups: what they make of the payload bay's part

record Ready (setup : List Call) (es : List part.Event) : Type 0 where
  happens : happened bay 0 setup ≡ es
  wide : Wide (after bay es)
  recording : (s : Signal) → Recording bay es s
  held : (s : Signal) → holds (after bay es).settings s ≡ false
  reset : (s : Signal) → resets (after bay es).settings s ≡ false
  not_yet : (after bay es).good ≡ false
  none : (after bay es).good_count ≡ 0
  none_counted : (s : Signal) → counted bay s es ≡ []
  none_stored : (s : Signal) → stored bay s es ≡ []

from_power_up : Ready [] []
unfolding first_bytes setting reset_of
from_power_up = record {
  happens = refl;
  wide = bay_wide;
  recording = bay_recording;
  held = elim [ Current ↦ refl | Voltage ↦ refl ];
  reset = elim [ Current ↦ refl | Voltage ↦ refl ];
  not_yet = refl;
  none = refl;
  none_counted = λ s. refl;
  none_stored = λ s. refl;
}

from_full : Ready to_full (part.write 0x3F 0 ∷ [])
unfolding channel majority first_bytes setting reset_of mask_of part.step
from_full = record {
  happens = refl;
  wide = full_wide;
  recording = full_recording;
  held = elim [ Current ↦ refl | Voltage ↦ refl ];
  reset = elim [ Current ↦ refl | Voltage ↦ refl ];
  not_yet = refl;
  none = refl;
  none_counted = elim [ Current ↦ refl | Voltage ↦ refl ];
  none_stored = λ s. refl;
}

-- ---- three ticks after a set-up, and the points

abbrev via : ℕ → ℕ → ℕ
via x zero = 4
via x (suc zero) = x
via x (suc (suc n)) = 20

via_low : (x : ℕ) → x ≤ 1023 → (k : ℕ) → via x k ≤ 1023
via_low x h zero = lit≤ tt
via_low x h (suc zero) = h
via_low x h (suc (suc n)) = lit≤ tt

module _ (setup : List Call) (es : List part.Event) (ready : Ready setup es) (i : ℕ → ℕ) (low : TenBits i 3) (x : ℕ) (h : x ≤ 1023) where
  took : (c v : ℕ) (cs : List Call) (es : List part.Event) → c ≤ 1023 → v ≤ 1023 → happened bay 0 cs ≡ es → happened bay 0 (tick c v ∷ cs) ≡ part.tick c v ∷ es
  took c v cs es l m is =
      ap (λ t. cond t (part.tick c v ∷ []) [] ++ happened bay 0 cs) (and_from (leb c 1023) (leb v 1023) (le-leb c 1023 l) (le-leb v 1023 m))
      ∙ ap (λ xs. part.tick c v ∷ xs) is

  events_are : events (dipped setup i x) ≡ ticks i (via x) 3 ++ es
  unfolding events ticks
  events_are = took (i 2) 20 (tick (i 1) x ∷ tick (i 0) 4 ∷ setup) _ (low 2 (omega arith)) (lit≤ tt) (took (i 1) x (tick (i 0) 4 ∷ setup) _ (low 1 (omega arith)) h (took (i 0) 4 setup es (low 0 (omega arith)) (lit≤ tt) ready.happens))

  good_ticks : AllGood (after bay es) i (via x) 3
  good_ticks = wide_all (after bay es) i (via x) ready.wide 3 (λ k l. via_low x h k)

  setting_at : (n : ℕ) → setting_point (dipped setup i x) n ≡ setting_of bay n es
  unfolding setting_point ticks
  setting_at n = ap (setting_of bay n) events_are

  level_at : (w : Pin) → level_point (dipped setup i x) w ≡ level_of bay w es
  unfolding level_point ticks
  level_at w = ap (level_of bay w) events_are

  good_at : good_point (dipped setup i x) ≡ false
  unfolding good_point
  good_at = ap (λ e. (after bay e).good) events_are ∙ not_good bay es i (via x) 3 (omega arith) good_ticks ready.not_yet ready.none

  latest_at : (s : Signal) → latest_point (dipped setup i x) s ≡ sample s (i 2) 20
  unfolding latest_point ticks
  latest_at s = ap (latest_of s) events_are

  counted_at : (s : Signal) → counted bay s (events (dipped setup i x)) ≡ back s i (via x) 3
  counted_at s =
      ap (counted bay s) events_are
      ∙ counted_is bay es i (via x) 3 s good_ticks (ready.held s) (ready.reset s)
      ∙ ap (λ xs. back s i (via x) 3 ++ xs) (ready.none_counted s)

  smallest_at : (s : Signal) → smallest_point (dipped setup i x) s ≡ Some (least (back s i (via x) 3))
  unfolding smallest_point
  smallest_at s = ap smallest_of (counted_at s)

  largest_at : (s : Signal) → largest_point (dipped setup i x) s ≡ Some (greatest (back s i (via x) 3))
  unfolding largest_point
  largest_at s = ap largest_of (counted_at s)

  cause_at : (q : Cause) → cause_point (dipped setup i x) q ≡ logged bay q es
  unfolding cause_point
  cause_at q = ap (logged bay q) events_are ∙ logged_is bay es i (via x) 3 q (omega arith) good_ticks ready.not_yet ready.none

  ring_at : (s : Signal) → ring_point (dipped setup i x) s ≡ as_fine (bit (run_weight s) (setting_of bay 0x3F es)) (ring_of (samples s i (via x) 3))
  unfolding ring_point
  ring_at s =
      ap (λ b. as_fine (bit (run_weight s) b) (ring_of (stored bay s (events (dipped setup i x))))) (setting_at 0x3F)
      ∙ ap (λ xs. as_fine (bit (run_weight s) (setting_of bay 0x3F es)) (ring_of xs))
      (ap (stored bay s) events_are ∙ stored_is bay es s (ready.recording s) i (via x) 3 good_ticks ∙ ap (λ xs. xs ++ samples s i (via x) 3) (ready.none_stored s))

-- ---- in short

least_is : (x : ℕ) → 4 ≤ x → lesser 20 (lesser x 4) ≡ 4
least_is x h = ap (lesser 20) (up_to x 4 4 (λ no. omega arith) (λ _. refl))

greatest_is : (x : ℕ) → x ≤ 20 → greater 20 (greater x 4) ≡ 20
greatest_is x h = cond_both (ltb x 4) 4 x (λ y. greater 20 y ≡ 20) (λ _. refl) (λ _. cond-false (ltb 20 x) x 20 (le-ltb 20 x h))

high_bytes : (i : ℕ → ℕ) (x y : ℕ) (s : Signal) → x / 4 ≡ y / 4 → as_fine true (ring_of (samples s i (via x) 3)) ≡ as_fine true (ring_of (samples s i (via y) 3))
high_bytes i x y Current e = refl
high_bytes i x y Voltage e = ap (λ z. replicate 47 0 ++ (1 ∷ z ∷ 5 ∷ [])) e

short_at : (s : Signal) → bit (run_weight s) (setting_of bay 0x3F []) ≡ true
unfolding reset_of
short_at Current = refl
short_at Voltage = refl

module _ (i : ℕ → ℕ) (low : TenBits i 3) (x y : ℕ) (xl : 4 ≤ x) (xh : x ≤ 20) (yl : 4 ≤ y) (yh : y ≤ 20) (same : x / 4 ≡ y / 4) where
  smallest_same : (s : Signal) → least (back s i (via x) 3) ≡ least (back s i (via y) 3)
  smallest_same Current = refl
  smallest_same Voltage = least_is x xl ∙ sym (least_is y yl)

  largest_same : (s : Signal) → greatest (back s i (via x) 3) ≡ greatest (back s i (via y) 3)
  largest_same Current = refl
  largest_same Voltage = greatest_is x xh ∙ sym (greatest_is y yh)

  agree : Agree (dipped [] i x) (dipped [] i y)
  agree =
      let a : x ≤ 1023 = omega arith in
      let b : y ≤ 1023 = omega arith in
      record {
        settings = λ n l. setting_at [] [] from_power_up i low x a n ∙ sym (setting_at [] [] from_power_up i low y b n);
        prot = refl;
        levels = λ w. level_at [] [] from_power_up i low x a w ∙ sym (level_at [] [] from_power_up i low y b w);
        good = good_at [] [] from_power_up i low x a ∙ sym (good_at [] [] from_power_up i low y b);
        latest = λ s. latest_at [] [] from_power_up i low x a s ∙ sym (latest_at [] [] from_power_up i low y b s);
        smallest = λ s. smallest_at [] [] from_power_up i low x a s ∙ ap Some (smallest_same s) ∙ sym (smallest_at [] [] from_power_up i low y b s);
        largest = λ s. largest_at [] [] from_power_up i low x a s ∙ ap Some (largest_same s) ∙ sym (largest_at [] [] from_power_up i low y b s);
        causes = λ q. cause_at [] [] from_power_up i low x a q ∙ sym (cause_at [] [] from_power_up i low y b q);
        rings = λ s.
            ring_at [] [] from_power_up i low x a s
            ∙ ap (λ t. as_fine t (ring_of (samples s i (via x) 3))) (short_at s)
            ∙ high_bytes i x y s same
            ∙ sym (ap (λ t. as_fine t (ring_of (samples s i (via y) 3))) (short_at s))
            ∙ sym (ring_at [] [] from_power_up i low y b s);
      }

-- ---- in full

full_at : bit (run_weight Voltage) (setting_of bay 0x3F (part.write 0x3F 0 ∷ [])) ≡ false
unfolding mask_of
full_at = refl

middle : (i : ℕ → ℕ) (x : ℕ) → get_or (ring_of (samples Voltage i (via x) 3)) 48 0 ≡ x
middle i x = refl

full_ring : (i : ℕ → ℕ) → TenBits i 3 → (x : ℕ) → x ≤ 1023 → get_or (ring_point (dipped to_full i x) Voltage) 48 0 ≡ x
full_ring i low x h =
    ap (λ xs. get_or xs 48 0) (ring_at to_full (part.write 0x3F 0 ∷ []) from_full i low x h Voltage ∙ ap (λ t. as_fine t (ring_of (samples Voltage i (via x) 3))) full_at)
    ∙ middle i x

told : (h k : History) → TellsOf h k (report_on h)
told h k = tells h k (reached h) (report_on h) refl refl

by_sample : (i : ℕ → ℕ) (x y : ℕ) → TenBits i 3 → x ≤ 1023 → y ≤ 1023 → report_on (dipped to_full i x) ≡ report_on (dipped to_full i y) → x ≡ y
by_sample i x y low a b e =
    sym (full_ring i low x a)
    ∙ ap (λ xs. get_or xs 48 0) (((told (dipped to_full i x) (dipped to_full i y)).apart e).rings Voltage)
    ∙ full_ring i low y b

by_high_byte : (i : ℕ → ℕ) (x y : ℕ) → TenBits i 3 → 4 ≤ x → x ≤ 20 → 4 ≤ y → y ≤ 20 → x / 4 ≡ y / 4 → report_on (dipped [] i x) ≡ report_on (dipped [] i y)
by_high_byte i x y low xl xh yl yh e = (told (dipped [] i x) (dipped [] i y)).alike (agree i low x y xl xh yl yh e)

pub reports : Reports
reports = record {
  by_high_byte = by_high_byte;
  same_in_short = λ i low. by_high_byte i 9 10 low (lit≤ tt) (lit≤ tt) (lit≤ tt) (lit≤ tt) refl;
  by_sample = by_sample;
  apart_in_full = λ i low e. let no : ◌≡◌ {A = ℕ} 9 10 = by_sample i 9 10 low (lit≤ tt) (lit≤ tt) e in omega arith;
}
