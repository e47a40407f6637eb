-- A ring after the channel has turned off: it stores as many samples more as the stop delay says.
use Rattle.std.proofs.Common.{◌≡◌, ℕ, zero, suc, ◌+◌, ◌-◌, ◌%◌, ◌≤◌, ◌<◌, true, false, cond, not, ◌&&◌, eqb, leb, ltb, List, [], ◌∷◌, ◌++◌, sym, refl, ap, ◌∙◌, ⊎_elim, append_assoc, arith}
use lib.Bits.{bit_and}
use mathlib.Core.Bool.{and-true}
use Rattle.std.proofs.lemmas.List.{append-nil}
use Rattle.std.proofs.lemmas.Nat.{and_mask}
use Rattle.std.proofs.lemmas.Bool.{and_from, and_left, and_right, cond-true, cond-false, cond_both, le-leb, lt-leb, lt-ltb, le-ltb, ltb-true, ltb-false, eq-eqb, ne_eqb, cases_lt, cases_eq}
use Rattle.samples.specs.declared.signal.Signal.{Signal}
use Rattle.registers.specs.declared.pins.Pins.{Pins}
use Rattle.registers.specs.declared.causes.Trip.{Trip}
use Rattle.registers.specs.Pins.{bay, high}
use Rattle.registers.specs.Rows.{mask_of}
use Rattle.registers.specs.Questions.{setting, bit, run_weight, runs, stop_delay}
use Rattle.part.specs.declared.monitor.RingState.{RingState}
use Rattle.part.specs.declared.monitor.RingState.TheVariants.{Running, CountingDown, Stopped}
use Rattle.part.specs.Model.{Model, powered, monitor, sample}
use Rattle.part.specs.Channel.{two_of, majority, channel, turns_on, turns_off, slowed}
use Rattle.part.specs.Tick.{lesser, one_less, moving, measured, stores}
use Rattle.part.specs.Events.{Event, tick, trip, write, step, tripped, overwritten}
use Rattle.part.specs.Runs.{ran, after, stored, ring_of}
use Rattle.part.proofs.Steps.{monitor_step, settled_channel, never_falls}
use Rattle.part.proofs.Stands.{stands}
use Rattle.cases.specs.Ticks.{ticks, samples}
use Rattle.cases.specs.Bench.{Recording, shut_off, StopDelay}
use Rattle.cases.proofs.Good.{unturned, up_to, settings_kept, ran_on, samples_more}
use Rattle.cases.proofs.Bay.{bay_recording}

-- ---- a ring that counts down from k, after n ticks

left : ℕ → ℕ → RingState
left k n = cond (ltb n k) (CountingDown (k - n)) Stopped

left_on : (k n : ℕ) → n < k → left k n ≡ CountingDown (k - n)
unfolding left
left_on k n h = cond-true (ltb n k) (CountingDown (k - n)) Stopped (lt-ltb n k h)

left_none : (k n : ℕ) → k ≤ n → left k n ≡ Stopped
unfolding left
left_none k n h = cond-false (ltb n k) (CountingDown (k - n)) Stopped (le-ltb n k h)

left_first : (k : ℕ) → slowed k Running ≡ left k 0
left_first k =
    ⊎_elim
    (λ (z : k ≡ 0). cond-true (eqb k 0) Stopped (CountingDown k) (eq-eqb k 0 z) ∙ sym (left_none k 0 (omega arith)))
    (λ (some : k ≡ 0 → ⊥). cond-false (eqb k 0) Stopped (CountingDown k) (ne_eqb k 0 some) ∙ (let same : k ≡ k - 0 = omega arith in ap CountingDown same) ∙ sym (left_on k 0 (omega arith)))
    (cases_eq k 0)

left_next : (k n : ℕ) → one_less (left k n) ≡ left k (suc n)
left_next k n =
    ⊎_elim
    (λ (on : suc n < k).
    ap one_less (left_on k n (omega arith))
    ∙ cond-false (leb (k - n) 1) Stopped (CountingDown (k - n - 1)) (lt-leb (k - n) 1 (omega arith))
    ∙ (let same : k - n - 1 ≡ k - suc n = omega arith in ap CountingDown same)
    ∙ sym (left_on k (suc n) on))
    (λ (done : k ≤ suc n).
    ⊎_elim
    (λ (last : n < k).
    ap one_less (left_on k n last)
    ∙ cond-true (leb (k - n) 1) Stopped (CountingDown (k - n - 1)) (le-leb (k - n) 1 (omega arith))
    ∙ sym (left_none k (suc n) done))
    (λ (past : k ≤ n). ap one_less (left_none k n past) ∙ sym (left_none k (suc n) done))
    (cases_lt n k))
    (cases_lt (suc n) k)

-- ---- a byte goes to the stop delay, with the channel on

unswitched : (p : Pins) (es : List Event) (byte n : ℕ) → n < 70 → eqb 0x40 n ≡ false → setting (after p (write 0x40 byte ∷ es)).settings n ≡ setting (after p es).settings n
unswitched p es byte n h other =
    (stands p (write 0x40 byte ∷ es)).settings n h
    ∙ cond-false (eqb 0x40 n) (bit_and byte (mask_of n)) _ other
    ∙ sym ((stands p es).settings n h)

delay_is : (p : Pins) (es : List Event) (byte : ℕ) → stop_delay (after p (write 0x40 byte ∷ es)).settings ≡ lesser (byte % 64) 50
unfolding mask_of
delay_is p es byte =
    ap (λ d. cond (ltb 50 d) 50 d) ((stands p (write 0x40 byte ∷ es)).settings 0x40 (omega arith) ∙ and_mask byte 6)
    ∙ sym (cond_both (ltb (byte % 64) 50) (byte % 64) 50 (λ x. x ≡ cond (ltb 50 (byte % 64)) 50 (byte % 64))
    (λ t. sym (cond-false (ltb 50 (byte % 64)) 50 (byte % 64) (le-ltb 50 (byte % 64) (omega (arith, ltb-true (byte % 64) 50 t)))))
    (λ f. cond_both (ltb 50 (byte % 64)) 50 (byte % 64) (λ x. 50 ≡ x) (λ _. refl) (λ g. omega (arith, ltb-false (byte % 64) 50 f, ltb-false 50 (byte % 64) g))))

module _ (p : Pins) (es : List Event) (s : Signal) (byte : ℕ) (r : Recording p es s) where
  switched_on : channel (overwritten (after p es) 0x40 byte) ≡ true
  unfolding step majority channel
  switched_on =
      ap (λ b. two_of (bit 1 b) (bit 2 b) (high (after p es).pins.on) && not (after p es).latched) (unswitched p es byte 0x3B (omega arith) refl)
      ∙ r.on

  delayed : Recording p (write 0x40 byte ∷ es) s
  unfolding step
  delayed =
      let turn = unturned (channel (after p es)) (channel (overwritten (after p es) 0x40 byte)) r.on switched_on in
      record {
        on = settled_channel (majority (after p es)) (channel (after p es)) (overwritten (after p es) 0x40 byte) ∙ switched_on;
        running =
            ap (λ t. t.state) (monitor_step s (after p es) (write 0x40 byte))
            ∙ cond-false (turns_on (channel (after p es)) (overwritten (after p es) 0x40 byte)) Running _ turn.1
            ∙ cond-false (turns_off (channel (after p es)) (overwritten (after p es) 0x40 byte)) _ (monitor s (after p es)).state turn.0
            ∙ r.running;
        run_bit = ap (λ b. bit (run_weight s) b) (unswitched p es byte 0x19 (omega arith) refl) ∙ r.run_bit;
      }

-- ---- the breaker trips, with the channel on

latched_off : (m : Model) → m.latched ≡ true → channel m ≡ false
unfolding channel
latched_off m l = and_right (majority m) (not m.latched) (ap not l)

module _ (m : Model) (t : Trip) (on : channel m ≡ true) where
  trip_latches : (step m (trip t)).latched ≡ true
  unfolding step majority
  trip_latches = cond-false (majority m && not (majority m)) false _ (never_falls m) ∙ cond-true (channel m) true m.latched on

  tripped_off : channel (tripped m t) ≡ false
  tripped_off = latched_off (tripped m t) (cond-true (channel m) true m.latched on)

  trip_slows : (s : Signal) → (monitor s (step m (trip t))).state ≡ slowed (stop_delay m.settings) (monitor s m).state
  trip_slows s =
      ap (λ x. x.state) (monitor_step s m (trip t))
      ∙ cond-false (turns_on (channel m) (tripped m t)) Running _ (and_right (not (channel m)) (channel (tripped m t)) tripped_off)
      ∙ cond-true (turns_off (channel m) (tripped m t)) _ (monitor s m).state (and_from (channel m) (not (channel (tripped m t))) on (ap not tripped_off))

-- ---- ticks of a latched part

module _ (m : Model) (i v : ℕ) (l : m.latched ≡ true) where
  still_latched : (measured m i v).latched ≡ true
  still_latched = cond_both _ true m.latched (λ x. x ≡ true) (λ _. refl) (λ _. l)

  latched_next : (step m (tick i v)).latched ≡ true
  unfolding step majority
  latched_next = cond-false (majority m && not (majority m)) false _ (never_falls m) ∙ still_latched

  counts_down : (s : Signal) → (monitor s (step m (tick i v))).state ≡ one_less (monitor s m).state
  counts_down s =
      ap (λ x. x.state) (monitor_step s m (tick i v))
      ∙ cond-false (turns_on (channel m) (measured m i v)) Running _ (and_right (not (channel m)) (channel (measured m i v)) (latched_off (measured m i v) still_latched))
      ∙ cond-false (turns_off (channel m) (measured m i v)) _ (one_less (monitor s m).state) (and_left (channel m) _ (latched_off m l))

module _ (m : Model) (i v : ℕ → ℕ) (l : m.latched ≡ true) where
  stays_latched : (n : ℕ) → (ran m (ticks i v n)).latched ≡ true
  unfolding ticks
  stays_latched zero = l
  stays_latched (suc n) = latched_next (ran m (ticks i v n)) (i n) (v n) (stays_latched n)

  counted_down : (s : Signal) (k n : ℕ) → (monitor s m).state ≡ left k 0 → (monitor s (ran m (ticks i v n))).state ≡ left k n
  unfolding ticks
  counted_down s k zero is = is
  counted_down s k (suc n) is = counts_down (ran m (ticks i v n)) (i n) (v n) (stays_latched n) s ∙ ap one_less (counted_down s k n is) ∙ left_next k n

moves : (k n : ℕ) → moving (left k n) ≡ ltb n k
moves k n =
    ⊎_elim
    (λ (on : n < k). ap moving (left_on k n on) ∙ sym (lt-ltb n k on))
    (λ (past : k ≤ n). ap moving (left_none k n past) ∙ sym (le-ltb n k past))
    (cases_lt n k)

stored_down : (p : Pins) (es : List Event) (s : Signal) (i v : ℕ → ℕ) (k n : ℕ) → (after p es).latched ≡ true → (monitor s (after p es)).state ≡ left k 0 → runs (after p es).settings s ≡ true
    → stored p s (ticks i v n ++ es) ≡ stored p s es ++ samples s i v (lesser n k)
unfolding ticks
stored_down p es s i v k zero l is b =
    sym (append-nil (stored p s es)) ∙ ap (λ j. stored p s es ++ samples s i v j) (sym (cond_both (ltb 0 k) 0 k (λ j. j ≡ 0) (λ _. refl) (λ f. omega (arith, ltb-false 0 k f))))
stored_down p es s i v k (suc n) l is b =
    let stores_is : stores (after p (ticks i v n ++ es)) s ≡ ltb n k =
    ap (λ m. stores m s) (ran_on (powered p) es i v n)
    ∙ ap (λ t. moving t && runs (ran (after p es) (ticks i v n)).settings s) (counted_down (after p es) i v l s k n is)
    ∙ ap (λ c. moving (left k n) && runs c s) (settings_kept (after p es) i v n)
    ∙ ap (λ y. moving (left k n) && y) b
    ∙ and-true (moving (left k n))
    ∙ moves k n in
    let before = stored_down p es s i v k n l is b in
    ⊎_elim
    (λ (on : n < k).
    cond-true (stores (after p (ticks i v n ++ es)) s) _ _ (stores_is ∙ lt-ltb n k on)
    ∙ ap (λ xs. xs ++ (sample s (i n) (v n) ∷ [])) (before ∙ ap (λ j. stored p s es ++ samples s i v j) (up_to n k n (λ _. refl) (λ no. omega arith)))
    ∙ append_assoc (stored p s es) (samples s i v n) (sample s (i n) (v n) ∷ [])
    ∙ ap (λ xs. stored p s es ++ xs) (samples_more s i v n)
    ∙ ap (λ j. stored p s es ++ samples s i v j) (sym (up_to (suc n) k (n + 1) (λ more. omega arith) (λ most. omega arith))))
    (λ (past : k ≤ n).
    cond-false (stores (after p (ticks i v n ++ es)) s) _ _ (stores_is ∙ le-ltb n k past)
    ∙ before
    ∙ ap (λ j. stored p s es ++ samples s i v j) (up_to n k k (λ no. omega arith) (λ _. refl) ∙ sym (up_to (suc n) k k (λ no. omega arith) (λ _. refl))))
    (cases_lt n k)

-- ---- the case

stores_first : (p : Pins) (es : List Event) (s : Signal) → Recording p es s → (delay : ℕ) (t : Trip) (i v : ℕ → ℕ) (n : ℕ)
    → (monitor s (after p (shut_off delay t i v n es))).ring ≡ ring_of (stored p s es ++ samples s i v (lesser n (lesser (delay % 64) 50)))
unfolding step
stores_first p es s r delay t i v n =
    let w = delayed p es s delay r in
    let k = lesser (delay % 64) 50 in
    let state : (monitor s (after p (trip t ∷ write 0x40 delay ∷ es))).state ≡ left k 0 =
    trip_slows (after p (write 0x40 delay ∷ es)) t w.on s
    ∙ ap (slowed (stop_delay (after p (write 0x40 delay ∷ es)).settings)) w.running
    ∙ ap (λ d. slowed d Running) (delay_is p es delay)
    ∙ left_first k in
    (stands p (shut_off delay t i v n es)).rings s
    ∙ ap ring_of (stored_down p (trip t ∷ write 0x40 delay ∷ es) s i v k n (trip_latches (after p (write 0x40 delay ∷ es)) t w.on) state w.run_bit)

pub stop_delays : StopDelay
stop_delays = record {
  stores_first = stores_first;
  at_power_up = bay_recording;
  two = λ s t i v. stores_first bay [] s (bay_recording s) 2 t i v 5;
  none = λ s t i v. stores_first bay [] s (bay_recording s) 0 t i v 5;
  fifty = λ s t i v. stores_first bay [] s (bay_recording s) 63 t i v 60;
}
