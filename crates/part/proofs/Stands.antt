-- The part that a run of events leads to is as the run says.
use Rattle.std.proofs.Common.{◌≡◌, ℕ, ◌+◌, ◌%◌, ◌<◌, ◌≤◌, Bool, true, false, cond, not, ◌&&◌, ◌||◌, eqb, ltb, leb, List, [], ◌∷◌, map, reverse, length, get_or, take, sym, refl, ap, ◌∙◌, ⊎_elim, arith, lit≤}
use mathlib.Core.Path.{subst⁻¹}
use Rattle.std.proofs.lemmas.List.{map_more, reverse-append, take_all}
use Rattle.std.proofs.lemmas.List.FromFn.{get_or-map-range_with_len, length-map-range_with_len}
use Rattle.std.proofs.lemmas.Bool.{both_ways, cond-true, and_parts, or_cases, cases_Bool, leb-true, ltb-true, ltb-false, cond_both, cond-false}
use Rattle.samples.specs.declared.signal.Signal.{Signal}
use Rattle.samples.specs.declared.signal.Signal.TheVariants.{Current, Voltage}
use Rattle.registers.specs.declared.pins.Level.{Level}
use Rattle.registers.specs.declared.pins.Pins.{Pins}
use Rattle.registers.specs.declared.causes.Trip.{Trip}
use Rattle.registers.specs.declared.causes.Compare.{Compare}
use Rattle.registers.specs.declared.causes.Compare.TheVariants.{Uv2, Ov2}
use Rattle.registers.specs.declared.causes.Cause.{Cause}
use Rattle.registers.specs.Causes.{has}
use Rattle.registers.specs.Questions.{setting, good_delay, stop_delay}
use Rattle.registers.specs.Settings.{first_byte, first_bytes}
use Rattle.part.specs.declared.events.Pin.{Pin}
use Rattle.part.specs.declared.events.Pin.TheVariants.{On, Pol}
use Rattle.part.specs.declared.monitor.RingState.{RingState}
use Rattle.part.specs.Monitors.{Monitored}
use Rattle.part.specs.Model.{Model, powered, monitor, sample}
use Rattle.part.specs.Channel.{majority, channel, falls, turns_on, turns_off, forgets, settled_monitor, settled_signal, settled}
use Rattle.part.specs.Tick.{lesser, greater, counts, stores, sampled, measured, positive, acts, critical, latches, beyond, good_tick, next_count, next_good, logs_at}
use Rattle.part.specs.Events.{Event, tick, pin, trip, write, block, step, pinned, tripped, overwritten, restarted, blocked, with_state, trips, cleared_by}
use Rattle.part.specs.declared.replay.Event.{Event as Given}
use Rattle.part.specs.Runs.{ran, after, told, history, setting_of, level, same_pin, level_of, latest_of, stored, ring_of, counted_with, counted, least, greatest, logs_by, wipes, logged, Laws}
use Rattle.part.proofs.Steps.{monitor_next, monitor_step, ring_more, setting_written, settings_length, settled_channel, settled_majority, settled_forgets, never_falls, still_forgets, flag_kept, has_logs}

-- ---- an extreme of a signal is a figure f of the samples counted
module _ (e : Monitored → ℕ) (f : List ℕ → ℕ) (op : ℕ → ℕ → ℕ)
    (on_settled : (forget on off : Bool) (delay : ℕ) (t : Monitored) → e (settled_monitor forget on off delay t) ≡ cond forget (f []) (e t))
    (on_sampled : (m : Model) (s : Signal) (x : ℕ) (t : Monitored) → e (sampled m s x t) ≡ cond (counts m s) (op x (e t)) (e t))
    (on_state : (t : Monitored) (g : RingState) → e (with_state t g) ≡ e t)
    (more : (x : ℕ) (xs : List ℕ) → f (x ∷ xs) ≡ op x (f xs)) where
  reset_figure : (F : Bool) (t : ℕ) (xs : List ℕ) → t ≡ f xs → cond F (f []) t ≡ f (cond F [] xs)
  reset_figure true t xs is = refl
  reset_figure false t xs is = is

  counted_figure : (C : Bool) (x t : ℕ) (xs : List ℕ) → t ≡ f xs → cond C (op x t) t ≡ f (cond C (x ∷ xs) xs)
  counted_figure true x t xs is = ap (op x) is ∙ sym (more x xs)
  counted_figure false x t xs is = is

  -- the event has made m of b, and t of the signal
  settles : (s : Signal) (b m : Model) (t : Monitored) (xs : List ℕ) → e t ≡ f xs → e (settled_signal (channel b) m s t) ≡ f (cond (forgets (channel b) (settled b m) s) [] xs)
  settles s b m t xs is =
      on_settled (forgets (channel b) m s) (turns_on (channel b) m) (turns_off (channel b) m) (stop_delay m.settings) t
      ∙ reset_figure (forgets (channel b) m s) (e t) xs is
      ∙ ap (λ F. f (cond F [] xs)) (sym (settled_forgets (majority b) (channel b) m s))

  -- nothing that resets is left to do at a readout
  rests : (F : Bool) (t : ℕ) (xs : List ℕ) → t ≡ f xs → (F ≡ true → xs ≡ []) → t ≡ f (cond F [] xs)
  rests true t xs is none = is ∙ ap f (none refl)
  rests false t xs is none = is

  figure_step : (s : Signal) (b : Model) (ev : Event) (xs : List ℕ) → e (monitor s b) ≡ f xs → (forgets (channel b) b s ≡ true → xs ≡ [])
      → e (monitor_next s b ev) ≡ f (cond (forgets (channel b) (step b ev) s) [] (counted_with b s ev xs))
  unfolding step channel majority
  figure_step s b (tick i v) xs is none =
      settles s b (measured b i v) (sampled b s (sample s i v) (monitor s b)) (counted_with b s (tick i v) xs)
      (on_sampled b s (sample s i v) (monitor s b) ∙ counted_figure (counts b s) (sample s i v) (e (monitor s b)) xs is)
  figure_step s b (pin w l) xs is none = settles s b (pinned b w l) (monitor s b) xs is
  figure_step s b (trip t) xs is none = settles s b (tripped b t) (monitor s b) xs is
  figure_step s b (write n byte) xs is none = settles s b (overwritten b n byte) (restarted b n byte s (monitor s b)) xs (on_state (monitor s b) _ ∙ is)
  figure_step s b (block r) xs is none = on_state (monitor s b) _ ∙ rests (forgets (channel b) b s) (e (monitor s b)) xs is none

  pub stands_figure : (p : Pins) → ((s : Signal) (es : List Event) → forgets (channel (after p es)) (after p es) s ≡ true → counted p s es ≡ [])
      → ((s : Signal) → e (monitor s (powered p)) ≡ f []) → (s : Signal) (es : List Event) → e (monitor s (after p es)) ≡ f (counted p s es)
  stands_figure p none z s [] = z s
  stands_figure p none z s (ev ∷ es) =
      ap e (monitor_step s (after p es) ev)
      ∙ figure_step s (after p es) ev (counted p s es) (stands_figure p none z s es) (none s es)

-- ---- a cause over one event: cleared or not, logged or not

unmoved : (b : Model) (s : Signal) → falls (majority b) (blocked b s) ≡ false
unfolding majority
unmoved b s = never_falls b

module _ (q : Cause) (b : Model) (L : Bool) (is : has q b.logs ≡ L) where
  settled_log : (m : Model) (y : Bool) → has q m.logs ≡ y → has q (settled b m).logs ≡ cond (falls (majority b) (settled b m)) false y
  settled_log m y e =
      has_logs (λ z. cond (falls (majority b) m) false (has z m.logs)) q
      ∙ ap (λ y. cond (falls (majority b) m) false y) e
      ∙ ap (λ x. cond (majority b && not x) false y) (sym (settled_majority (majority b) (channel b) m))

  wiped : (w x : Bool) → cond x false (cond w false L) ≡ cond (w || x) false L
  wiped true true = refl
  wiped true false = refl
  wiped false x = refl

  log_step : (ev : Event) → has q (step b ev).logs ≡ cond (wipes ev q || falls (majority b) (step b ev)) false (cond (logs_by b ev q) true L)
  unfolding step
  log_step (tick i v) = settled_log (measured b i v) _ (has_logs (λ z. cond (logs_at b i v z) true (has z b.logs)) q ∙ ap (λ y. cond (logs_at b i v q) true y) is)
  log_step (pin w l) = settled_log (pinned b w l) L is
  log_step (trip t) = settled_log (tripped b t) _ (has_logs (λ z. cond (trips b t z) true (has z b.logs)) q ∙ ap (λ y. cond (trips b t q) true y) is)
  log_step (write n byte) =
      settled_log (overwritten b n byte) _ (has_logs (λ z. cond (cleared_by n z) false (has z b.logs)) q ∙ ap (λ y. cond (cleared_by n q) false y) is)
      ∙ wiped (cleared_by n q) (falls (majority b) (settled b (overwritten b n byte)))
  log_step (block s) = is ∙ sym (ap (λ x. cond x false L) (unmoved b s))

-- ---- power-good and the latch

pub record Sound (m : Model) : Type 0 where
  pub good_on : m.good ≡ true → channel m ≡ true
  pub latched_on : m.latched ≡ true → majority m ≡ true

some_delay : (bytes : List ℕ) → 500 ≤ good_delay bytes
some_delay bytes =
    let Long : ℕ → Type 0 = λ n. 500 ≤ n in
    cond_both (eqb (setting bytes 0x38 % 4) 0) 500 _ Long (λ e. lit≤ tt)
    (λ e. cond_both (eqb (setting bytes 0x38 % 4) 1) 1000 _ Long (λ e. lit≤ tt)
    (λ e. cond_both (eqb (setting bytes 0x38 % 4) 2) 2000 _ Long (λ e. lit≤ tt) (λ e. lit≤ tt)))

module _ (m : Model) (sound : Sound m) (i v : ℕ) where
  counting_on : 500 ≤ next_count m i v → channel m ≡ true
  counting_on h =
      ⊎_elim
      (λ (t : good_tick m i v ≡ true). (and_parts _ (channel m) t).1)
      (λ (t : good_tick m i v ≡ false). absurd (let none : next_count m i v ≡ 0 = cond-false (good_tick m i v) _ 0 t in let no : ⊥ = omega arith in no))
      (cases_Bool (good_tick m i v))

  -- a tick that leaves power-good at 1 found the channel on
  good_found_on : next_good m i v ≡ true → channel m ≡ true
  good_found_on e =
      ⊎_elim
      (λ t. counting_on (let long = leb-true (good_delay m.settings) (next_count m i v) t in omega (arith, some_delay m.settings)))
      (λ t. sound.good_on (and_parts m.good _ t).0)
      (or_cases (leb (good_delay m.settings) (next_count m i v)) _ e)

  acting_good : (q : Compare) → acts m i v q ≡ true → m.good ≡ true
  acting_good q e = (and_parts (beyond m i v q) m.good (and_parts (positive m i v q) _ e).0).1

  critical_good : critical m i v ≡ true → m.good ≡ true
  critical_good e = ⊎_elim (acting_good Uv2) (acting_good Ov2) (or_cases (acts m i v Uv2) (acts m i v Ov2) e)

  channel_majority : channel m ≡ true → majority m ≡ true
  unfolding channel
  channel_majority e = (and_parts (majority m) _ e).0

  latched_found_on : (measured m i v).latched ≡ true → majority m ≡ true
  latched_found_on e =
      ⊎_elim
      (λ (t : (critical m i v && latches m.pins.prot) ≡ true). channel_majority (sound.good_on (critical_good (and_parts (critical m i v) _ t).0)))
      (λ (t : (critical m i v && latches m.pins.prot) ≡ false). sound.latched_on (sym (cond-false (critical m i v && latches m.pins.prot) true m.latched t) ∙ e))
      (cases_Bool (critical m i v && latches m.pins.prot))

tripped_found_on : (m : Model) → Sound m → (t : Trip) → (tripped m t).latched ≡ true → majority m ≡ true
tripped_found_on m sound t e =
    ⊎_elim
    (λ (on : channel m ≡ true). channel_majority m sound 0 0 on)
    (λ (off : channel m ≡ false). sound.latched_on (sym (cond-false (channel m) true m.latched off) ∙ e))
    (cases_Bool (channel m))

-- settling keeps both
settled_sound : (b m : Model) → (m.good ≡ true → channel b ≡ true) → (m.latched ≡ true → majority b ≡ true) → Sound (settled b m)
settled_sound b m good latched = record {
  good_on = λ e. settled_channel (majority b) (channel b) m ∙ flag_kept (channel b) (channel m) m.good good e;
  latched_on = λ e. settled_majority (majority b) (channel b) m ∙ flag_kept (majority b) (majority m) m.latched latched e;
}

blocked_sound : (m : Model) (s : Signal) → Sound m → Sound (blocked m s)
unfolding channel majority
blocked_sound m s sound = record { good_on = sound.good_on; latched_on = sound.latched_on }

sound_step : (m : Model) → Sound m → (e : Event) → Sound (step m e)
unfolding step
sound_step m sound (tick i v) = settled_sound m (measured m i v) (good_found_on m sound i v) (latched_found_on m sound i v)
sound_step m sound (pin w l) = settled_sound m (pinned m w l) sound.good_on sound.latched_on
sound_step m sound (trip t) = settled_sound m (tripped m t) sound.good_on (tripped_found_on m sound t)
sound_step m sound (write n byte) = settled_sound m (overwritten m n byte) sound.good_on sound.latched_on
sound_step m sound (block s) = blocked_sound m s sound

module _ (p : Pins) where
  pub stands_log : (q : Cause) (es : List Event) → has q (after p es).logs ≡ logged p q es
  stands_log q [] = has_logs (λ z. false) q
  stands_log q (e ∷ es) = log_step q (after p es) (logged p q es) (stands_log q es) e

  none_counted : (s : Signal) (es : List Event) → forgets (channel (after p es)) (after p es) s ≡ true → counted p s es ≡ []
  none_counted s [] e = refl
  none_counted s (ev ∷ es) e =
      cond-true (forgets (channel (after p es)) (after p (ev ∷ es)) s) [] (counted_with (after p es) s ev (counted p s es))
      (still_forgets (channel (after p es)) (after p (ev ∷ es)) s e)

  at_power_up : (f : Monitored → ℕ) (n : ℕ) → f (powered p).current ≡ n → f (powered p).voltage ≡ n → (s : Signal) → f (monitor s (powered p)) ≡ n
  at_power_up f n c v Current = c
  at_power_up f n c v Voltage = v

  pub stands_smallest : (s : Signal) (es : List Event) → (monitor s (after p es)).smallest ≡ least (counted p s es)
  stands_smallest = stands_figure (λ t. t.smallest) least lesser (λ o on off d t. refl) (λ m s x t. refl) (λ t g. refl) (λ x xs. refl) p none_counted (at_power_up (λ t. t.smallest) 1023 refl refl)

  pub stands_largest : (s : Signal) (es : List Event) → (monitor s (after p es)).largest ≡ greatest (counted p s es)
  stands_largest = stands_figure (λ t. t.largest) greatest greater (λ o on off d t. refl) (λ m s x t. refl) (λ t g. refl) (λ x xs. refl) p none_counted (at_power_up (λ t. t.largest) 0 refl refl)

  pub stands_latest : (s : Signal) (es : List Event) → (monitor s (after p es)).latest ≡ latest_of s es
  stands_latest s [] = at_power_up (λ t. t.latest) 0 refl refl s
  stands_latest s (tick i v ∷ es) = ap (λ t. t.latest) (monitor_step s (after p es) (tick i v))
  stands_latest s (pin w l ∷ es) = ap (λ t. t.latest) (monitor_step s (after p es) (pin w l)) ∙ stands_latest s es
  stands_latest s (trip t ∷ es) = ap (λ t. t.latest) (monitor_step s (after p es) (trip t)) ∙ stands_latest s es
  stands_latest s (write n byte ∷ es) = ap (λ t. t.latest) (monitor_step s (after p es) (write n byte)) ∙ stands_latest s es
  stands_latest s (block r ∷ es) = ap (λ t. t.latest) (monitor_step s (after p es) (block r)) ∙ stands_latest s es

  pub stands_ring : (s : Signal) (es : List Event) → (monitor s (after p es)).ring ≡ ring_of (stored p s es)
  stands_ring Current [] = refl
  stands_ring Voltage [] = refl
  stands_ring s (tick i v ∷ es) =
      ap (λ t. t.ring) (monitor_step s (after p es) (tick i v))
      ∙ ring_more (stores (after p es) s) (monitor s (after p es)).ring (stored p s es) (sample s i v) (stands_ring s es)
  stands_ring s (pin w l ∷ es) = ap (λ t. t.ring) (monitor_step s (after p es) (pin w l)) ∙ stands_ring s es
  stands_ring s (trip t ∷ es) = ap (λ t. t.ring) (monitor_step s (after p es) (trip t)) ∙ stands_ring s es
  stands_ring s (write n byte ∷ es) = ap (λ t. t.ring) (monitor_step s (after p es) (write n byte)) ∙ stands_ring s es
  stands_ring s (block r ∷ es) = ap (λ t. t.ring) (monitor_step s (after p es) (block r)) ∙ stands_ring s es

  seventy : (es : List Event) → length (after p es).settings ≡ 70
  unfolding first_bytes
  seventy [] = length-map-range_with_len (first_byte p) 0 70
  seventy (e ∷ es) = settings_length (after p es) e ∙ seventy es

  pub stands_setting : (n : ℕ) → n < 70 → (es : List Event) → setting (after p es).settings n ≡ setting_of p n es
  unfolding first_bytes setting step
  stands_setting n h [] = get_or-map-range_with_len (first_byte p) 0 70 n n 0 h (omega arith)
  stands_setting n h (tick i v ∷ es) = stands_setting n h es
  stands_setting n h (pin w l ∷ es) = stands_setting n h es
  stands_setting n h (trip t ∷ es) = stands_setting n h es
  stands_setting n h (write k byte ∷ es) = setting_written (after p es).settings k n byte (setting_of p n es) (seventy es) h (stands_setting n h es)
  stands_setting n h (block s ∷ es) = stands_setting n h es

  pinned_level : (w u : Pin) (l : Level) (m : Model) (old : Level) → level w m.pins ≡ old → level w (pinned m u l).pins ≡ cond (same_pin u w) l old
  pinned_level On On l m old e = refl
  pinned_level On Pol l m old e = e
  pinned_level Pol On l m old e = e
  pinned_level Pol Pol l m old e = refl

  pub stands_level : (w : Pin) (es : List Event) → level w (after p es).pins ≡ level_of p w es
  unfolding step
  stands_level w [] = refl
  stands_level w (tick i v ∷ es) = stands_level w es
  stands_level w (pin u l ∷ es) = pinned_level w u l (after p es) (level_of p w es) (stands_level w es)
  stands_level w (trip t ∷ es) = stands_level w es
  stands_level w (write k byte ∷ es) = stands_level w es
  stands_level w (block s ∷ es) = stands_level w es

  pub stands_sound : (es : List Event) → Sound (after p es)
  stands_sound [] = record { good_on = λ e. absurd (both_ways false refl e); latched_on = λ e. absurd (both_ways false refl e) }
  stands_sound (e ∷ es) = sound_step (after p es) (stands_sound es) e

-- 1023 is the least and 0 the greatest of no samples only
none_of : (xs : List ℕ) → least xs ≡ 1023 → greatest xs ≡ 0 → xs ≡ []
none_of [] a b = refl
none_of (x ∷ xs) a b =
    absurd
    (let low : lesser x (least xs) ≤ x = cond_both (ltb x (least xs)) x (least xs) (λ n. n ≤ x) (λ e. omega arith) (λ e. omega (arith, ltb-false x (least xs) e)) in
    let high : x ≤ greater x (greatest xs) = cond_both (ltb x (greatest xs)) (greatest xs) x (λ n. x ≤ n) (λ e. omega (arith, ltb-true x (greatest xs) e)) (λ e. omega arith) in
    let no : ⊥ = omega arith in no)

pub stands : (p : Pins) (es : List Event) → Laws p es (after p es)
stands p es = record {
  settings = λ n h. stands_setting p n h es;
  levels = λ w. stands_level p w es;
  latest = λ s. stands_latest p s es;
  rings = λ s. stands_ring p s es;
  extremes = λ s. record {
    smallest_is = stands_smallest p s es;
    largest_is = stands_largest p s es;
    none_counted = λ a b. none_of (counted p s es) (sym (stands_smallest p s es) ∙ a) (sym (stands_largest p s es) ∙ b);
  };
  causes = λ q. stands_log p q es;
  good_on = (stands_sound p es).good_on;
  latched_on = (stands_sound p es).latched_on;
}

-- one event more, and all of them
history_more : (es : List Given) (i : ℕ) (e : Given) → i < length es → e ≡ get_or es i e → history (take (i + 1) es) ≡ told e ∷ history (take i es)
history_more es i e h is =
    ap reverse (map_more told es i e h) ∙ reverse-append (map told (take i es)) (told (get_or es i e) ∷ []) ∙ ap (λ x. told x ∷ history (take i es)) (sym is)

pub ran_more : (b m n : Model) (es : List Given) (i : ℕ) (e : Given) → i < length es → e ≡ get_or es i e → m ≡ ran b (history (take i es)) → n ≡ step m (told e) → n ≡ ran b (history (take (i + 1) es))
ran_more b m n es i e h is before now = now ∙ ap (λ x. step x (told e)) before ∙ ap (ran b) (sym (history_more es i e h is))

pub ran_all : (b m : Model) (es : List Given) (i : ℕ) → length es ≤ i → m ≡ ran b (history (take i es)) → m ≡ ran b (history es)
ran_all b m es i h is = is ∙ ap (λ xs. ran b (history xs)) (take_all i es h)

pub stands_at : (p : Pins) (es : List Event) (b m : Model) → b ≡ powered p → m ≡ ran b es → (m ≡ after p es) × Laws p es m
stands_at p es b m start is =
    let at : m ≡ after p es = is ∙ ap (λ x. ran x es) start in
    (at, subst⁻¹ (λ (x : Model). Laws p es x) at (stands p es))
