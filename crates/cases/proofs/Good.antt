-- A good tick, and runs of them: the channel stays on, the count goes up, and the rings store.
use Rattle.std.proofs.Common.{◌≡◌, ℕ, zero, suc, ◌+◌, ◌≤◌, ◌<◌, Bool, true, false, not, ◌&&◌, ◌||◌, eqb, leb, ltb, List, [], ◌∷◌, ◌++◌, sym, refl, ap, ◌∙◌, ⊎_elim, append_assoc, add-one, arith, lit≤, ◌%◌}
use Rattle.std.proofs.lemmas.List.{append-nil}
use Rattle.std.proofs.lemmas.List.FromFn.{map-range_with_len_more}
use Rattle.std.proofs.lemmas.Bool.{both_ways, and_parts, and_left, or_left, cond-true, cond-false, cond_both, le-leb, lt-leb, ltb-true, ltb-false, not-true, cases_lt}
use Rattle.samples.specs.declared.signal.Signal.{Signal}
use Rattle.registers.specs.declared.pins.Pins.{Pins}
use Rattle.registers.specs.declared.causes.Compare.TheVariants.{Uv2, Ov2}
use Rattle.registers.specs.Questions.{setting, good_delay, runs}
use Rattle.part.specs.declared.monitor.RingState.TheVariants.{Running}
use Rattle.part.specs.Model.{Model, powered, monitor, sample}
use Rattle.part.specs.Channel.{majority, channel, turns_on, turns_off}
use Rattle.part.specs.Tick.{lesser, one_less, measured, beyond, critical, latches, guards, good_tick, next_count, next_good, moving, stores}
use Rattle.part.specs.Events.{Event, tick, step}
use Rattle.part.specs.Runs.{ran, after, stored}
use Rattle.part.proofs.Steps.{monitor_step, settled_channel}
use Rattle.cases.specs.Ticks.{ticks, samples, AllGood}
use Rattle.cases.specs.Bench.{Recording}

-- ---- one good tick

calm : (u o g x y : Bool) → u ≡ false → o ≡ false → (((u && g) && x) || ((o && g) && y)) ≡ false
calm u o g x y e f = rw (e, f)

pub unturned : (was is : Bool) → was ≡ true → is ≡ true → ((was && not is) ≡ false) × ((not was && is) ≡ false)
unturned true true e f = (refl, refl)
unturned true false e f = absurd (both_ways false refl f)
unturned false is e f = absurd (both_ways false refl e)

still_good : (long good c g : Bool) → c ≡ false → (long || (good && not (c && g))) ≡ (long || good)
still_good long true c g e = rw e
still_good long false c g e = refl

module _ (m : Model) (i v : ℕ) (g : good_tick m i v ≡ true) where
  pub found_on : channel m ≡ true
  found_on = (and_parts _ (channel m) g).1

  within : (beyond m i v Uv2 ≡ false) × (beyond m i v Ov2 ≡ false)
  within =
      let both = and_parts (not (beyond m i v Uv2)) (not (beyond m i v Ov2)) (and_parts _ (channel m) g).0 in
      (not-true _ both.0, not-true _ both.1)

  no_critical : critical m i v ≡ false
  no_critical = calm (beyond m i v Uv2) (beyond m i v Ov2) m.good _ _ within.0 within.1

  still_on : channel (measured m i v) ≡ true
  unfolding channel majority
  still_on = ap (λ l. majority m && not l) (cond-false (critical m i v && latches m.pins.prot) true m.latched (and_left (critical m i v) _ no_critical)) ∙ found_on

  no_turn : (turns_off (channel m) (measured m i v) ≡ false) × (turns_on (channel m) (measured m i v) ≡ false)
  no_turn = unturned (channel m) (channel (measured m i v)) found_on still_on

  pub leaves_on : channel (step m (tick i v)) ≡ true
  unfolding step
  leaves_on = settled_channel (majority m) (channel m) (measured m i v) ∙ still_on

  pub counts_one : (step m (tick i v)).good_count ≡ lesser (m.good_count + 1) 4000
  unfolding step
  counts_one = cond-false (turns_off (channel m) (measured m i v)) 0 (next_count m i v) no_turn.0 ∙ cond-true (good_tick m i v) (lesser (m.good_count + 1) 4000) 0 g

  pub good_after : (step m (tick i v)).good ≡ (leb (good_delay m.settings) (lesser (m.good_count + 1) 4000) || m.good)
  unfolding step
  good_after =
      cond-false (turns_off (channel m) (measured m i v)) false (next_good m i v) no_turn.0
      ∙ still_good (leb (good_delay m.settings) (next_count m i v)) m.good (critical m i v) (guards m.pins.prot) no_critical
      ∙ ap (λ n. leb (good_delay m.settings) n || m.good) (cond-true (good_tick m i v) (lesser (m.good_count + 1) 4000) 0 g)

  pub state_after : (s : Signal) → (monitor s (step m (tick i v))).state ≡ one_less (monitor s m).state
  state_after s =
      ap (λ t. t.state) (monitor_step s m (tick i v))
      ∙ cond-false (turns_on (channel m) (measured m i v)) Running _ no_turn.1
      ∙ cond-false (turns_off (channel m) (measured m i v)) _ (one_less (monitor s m).state) no_turn.0

-- ---- runs of ticks, whatever they find

pub settings_kept : (m : Model) (i v : ℕ → ℕ) (n : ℕ) → (ran m (ticks i v n)).settings ≡ m.settings
unfolding step ticks
settings_kept m i v zero = refl
settings_kept m i v (suc n) = settings_kept m i v n

pub ran_on : (m : Model) (es : List Event) (i v : ℕ → ℕ) (n : ℕ) → ran m (ticks i v n ++ es) ≡ ran (ran m es) (ticks i v n)
unfolding ticks
ran_on m es i v zero = refl
ran_on m es i v (suc n) = ap (λ x. step x (tick (i n) (v n))) (ran_on m es i v n)

pub samples_more : (s : Signal) (i v : ℕ → ℕ) (n : ℕ) → samples s i v n ++ (sample s (i n) (v n) ∷ []) ≡ samples s i v (n + 1)
samples_more s i v n = sym (map-range_with_len_more (λ k. sample s (i k) (v k)) 0 n n (omega arith))

-- ---- runs of good ticks

fewer : (m : Model) (i v : ℕ → ℕ) (n : ℕ) → AllGood m i v (suc n) → AllGood m i v n
fewer m i v n all k h = all k (omega arith)

last_good : (m : Model) (i v : ℕ → ℕ) (n : ℕ) → AllGood m i v (suc n) → good_tick (ran m (ticks i v n)) (i n) (v n) ≡ true
last_good m i v n all = all n (omega arith)

pub up_to : (x y z : ℕ) → (x < y → x ≡ z) → (y ≤ x → y ≡ z) → lesser x y ≡ z
up_to x y z below above = cond_both (ltb x y) x y (λ n. n ≡ z) (λ e. below (ltb-true x y e)) (λ e. above (ltb-false x y e))

lesser_more : (b n : ℕ) → lesser (lesser (b + n) 4000 + 1) 4000 ≡ lesser (b + suc n) 4000
lesser_more b n =
    ⊎_elim
    (λ (h : b + n < 4000). ap (λ c. lesser (c + 1) 4000) (up_to (b + n) 4000 (b + n) (λ _. refl) (λ no. omega arith)) ∙ (let same : b + n + 1 ≡ b + suc n = omega arith in ap (λ c. lesser c 4000) same))
    (λ (h : 4000 ≤ b + n). ap (λ c. lesser (c + 1) 4000) (up_to (b + n) 4000 4000 (λ no. omega arith) (λ _. refl)) ∙ sym (up_to (b + suc n) 4000 4000 (λ no. omega arith) (λ _. refl)))
    (cases_lt (b + n) 4000)

pub count_is : (m : Model) (i v : ℕ → ℕ) (n : ℕ) → m.good_count ≤ 4000 → AllGood m i v n → (ran m (ticks i v n)).good_count ≡ lesser (m.good_count + n) 4000
unfolding ticks
count_is m i v zero few all = sym (up_to (m.good_count + 0) 4000 m.good_count (λ _. omega arith) (λ most. omega arith))
count_is m i v (suc n) few all =
    counts_one (ran m (ticks i v n)) (i n) (v n) (last_good m i v n all)
    ∙ ap (λ c. lesser (c + 1) 4000) (count_is m i v n few (fewer m i v n all))
    ∙ lesser_more m.good_count n

pub delay_is : (bytes : List ℕ) → (500 ≤ good_delay bytes) × (good_delay bytes ≤ 4000)
delay_is bytes =
    let Delay : ℕ → Type 0 = λ d. (500 ≤ d) × (d ≤ 4000) in
    cond_both (eqb (setting bytes 0x38 % 4) 0) 500 _ Delay (λ e. (lit≤ tt, lit≤ tt))
    (λ e. cond_both (eqb (setting bytes 0x38 % 4) 1) 1000 _ Delay (λ e. (lit≤ tt, lit≤ tt))
    (λ e. cond_both (eqb (setting bytes 0x38 % 4) 2) 2000 _ Delay (λ e. (lit≤ tt, lit≤ tt)) (λ e. (lit≤ tt, lit≤ tt))))

-- a count that goes no further than 4000 is long enough for a delay where the ticks are
long_more : (d a b : ℕ) → a + 1 ≡ b → d ≤ 4000 → (leb d (lesser b 4000) || leb d a) ≡ leb d b
long_more d a b next most =
    ⊎_elim
    (λ (short : b < d).
    ap (λ c. leb d c || leb d a) (up_to b 4000 b (λ _. refl) (λ no. omega arith))
    ∙ rw (lt-leb d b short, lt-leb d a (omega arith)))
    (λ (long : d ≤ b).
    or_left (leb d (lesser b 4000)) (leb d a) (cond_both (ltb b 4000) b 4000 (λ c. leb d c ≡ true) (λ _. le-leb d b long) (λ _. le-leb d 4000 most))
    ∙ sym (le-leb d b long))
    (cases_lt b d)

pub good_is : (m : Model) (i v : ℕ → ℕ) (n : ℕ) → m.good ≡ false → m.good_count < good_delay m.settings → AllGood m i v n → (ran m (ticks i v n)).good ≡ leb (good_delay m.settings) (m.good_count + n)
unfolding ticks
good_is m i v zero not_yet few all = not_yet ∙ sym (lt-leb (good_delay m.settings) (m.good_count + 0) (omega arith))
good_is m i v (suc n) not_yet few all =
    good_after (ran m (ticks i v n)) (i n) (v n) (last_good m i v n all)
    ∙ ap (λ d. leb (good_delay d) (lesser ((ran m (ticks i v n)).good_count + 1) 4000) || (ran m (ticks i v n)).good) (settings_kept m i v n)
    ∙ ap (λ c. leb (good_delay m.settings) (lesser (c + 1) 4000) || (ran m (ticks i v n)).good) (count_is m i v n (let most = (delay_is m.settings).1 in omega arith) (fewer m i v n all))
    ∙ ap (λ c. leb (good_delay m.settings) c || (ran m (ticks i v n)).good) (lesser_more m.good_count n)
    ∙ ap (λ y. leb (good_delay m.settings) (lesser (m.good_count + suc n) 4000) || y) (good_is m i v n not_yet few (fewer m i v n all))
    ∙ long_more (good_delay m.settings) (m.good_count + n) (m.good_count + suc n) (omega arith) (delay_is m.settings).1

running_on : (m : Model) (i v : ℕ → ℕ) (n : ℕ) (s : Signal) → AllGood m i v n → (monitor s m).state ≡ Running → (monitor s (ran m (ticks i v n))).state ≡ Running
unfolding ticks
running_on m i v zero s all run = run
running_on m i v (suc n) s all run = state_after (ran m (ticks i v n)) (i n) (v n) (last_good m i v n all) s ∙ ap one_less (running_on m i v n s (fewer m i v n all) run)

-- a ring that runs stores each sample
pub stored_is : (p : Pins) (es : List Event) (s : Signal) → Recording p es s → (i v : ℕ → ℕ) (n : ℕ) → AllGood (after p es) i v n → stored p s (ticks i v n ++ es) ≡ stored p s es ++ samples s i v n
unfolding ticks
stored_is p es s r i v zero all = sym (append-nil (stored p s es))
stored_is p es s r i v (suc n) all =
    let moves : stores (after p (ticks i v n ++ es)) s ≡ true =
    ap (λ m. stores m s) (ran_on (powered p) es i v n)
    ∙ ap (λ t. moving t && runs (ran (after p es) (ticks i v n)).settings s) (running_on (after p es) i v n s (fewer (after p es) i v n all) r.running)
    ∙ ap (λ b. runs b s) (settings_kept (after p es) i v n)
    ∙ r.run_bit in
    cond-true (stores (after p (ticks i v n ++ es)) s) _ _ moves
    ∙ ap (λ xs. xs ++ (sample s (i n) (v n) ∷ [])) (stored_is p es s r i v n (fewer (after p es) i v n all))
    ∙ append_assoc (stored p s es) (samples s i v n) (sample s (i n) (v n) ∷ [])
    ∙ ap (λ xs. stored p s es ++ xs) (samples_more s i v n ∙ ap (samples s i v) (add-one n))
