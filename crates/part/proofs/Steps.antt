-- One event, seen through one view of the part.
use Rattle.std.proofs.Common.{◌≡◌, ℕ, ◌+◌, ◌-◌, ◌<◌, ◌≤◌, Bool, true, false, cond, not, ◌&&◌, ◌||◌, eqb, List, [], ◌∷◌, ◌++◌, length, drop, set, replicate, sym, refl, ap, ◌∙◌, inl, inr, append_assoc, arith, length-append, length-set}
use mathlib.Core.Bool.{and-not_self}
use lib.Bits.{bit_and}
use Rattle.std.proofs.lemmas.List.{drop-append-le, drop-drop, length-drop, get_or-set_same, get_or-set_other}
use Rattle.std.proofs.lemmas.Bool.{cases_eq, eq-eqb, ne_eqb, both_ways}
use Rattle.samples.specs.History.{pushed, last_fifty}
use Rattle.samples.specs.declared.signal.Signal.{Signal}
use Rattle.samples.specs.declared.signal.Signal.TheVariants.{Current, Voltage}
use Rattle.registers.specs.declared.causes.Trip.TheVariants.{Fast, Slow}
use Rattle.registers.specs.declared.causes.Compare.TheVariants.{Uv1, Uv2, Ov1, Ov2, Oi}
use Rattle.registers.specs.declared.causes.Cause.{Cause}
use Rattle.registers.specs.declared.causes.Cause.TheVariants as cause
use Rattle.registers.specs.Rows.{mask_of}
use Rattle.registers.specs.Causes.{has, logs}
use Rattle.registers.specs.Questions.{setting, resets, holds}
use Rattle.part.specs.Monitors.{Monitored}
use Rattle.part.specs.Model.{Model, monitor, sample}
use Rattle.part.specs.Channel.{majority, channel, falls, forgets, settled_signal, settled_by}
use Rattle.part.specs.Tick.{sampled, measured}
use Rattle.part.specs.Events.{Event, tick, pin, trip, write, block, step, pinned, tripped, overwritten, restarted, halted}
use Rattle.part.specs.Runs.{ring_of}

-- ---- each event, signal by signal

abbrev pub monitor_next : Signal → Model → Event → Monitored
monitor_next s m (tick i v) = settled_signal (channel m) (measured m i v) s (sampled m s (sample s i v) (monitor s m))
monitor_next s m (pin w l) = settled_signal (channel m) (pinned m w l) s (monitor s m)
monitor_next s m (trip t) = settled_signal (channel m) (tripped m t) s (monitor s m)
monitor_next s m (write n byte) = settled_signal (channel m) (overwritten m n byte) s (restarted m n byte s (monitor s m))
monitor_next s m (block r) = halted r s (monitor s m)

pub monitor_step : (s : Signal) (m : Model) (e : Event) → monitor s (step m e) ≡ monitor_next s m e
unfolding step
monitor_step Current m (tick i v) = refl
monitor_step Current m (pin w l) = refl
monitor_step Current m (trip t) = refl
monitor_step Current m (write n byte) = refl
monitor_step Current m (block r) = refl
monitor_step Voltage m (tick i v) = refl
monitor_step Voltage m (pin w l) = refl
monitor_step Voltage m (trip t) = refl
monitor_step Voltage m (write n byte) = refl
monitor_step Voltage m (block r) = refl

-- ---- rings

push_last : (xs : List ℕ) (x : ℕ) → 50 ≤ length xs → pushed (last_fifty xs) x ≡ last_fifty (xs ++ (x ∷ []))
push_last xs x h =
    let l = length-append xs (x ∷ []) in
    let d : length xs - 50 + 1 ≡ length (xs ++ (x ∷ [])) - 50 = omega arith in
    let one : 1 ≤ length (drop (length xs - 50) xs) = simp length-drop (omega arith) in
    sym (drop-append-le 1 (drop (length xs - 50) xs) (x ∷ []) one)
    ∙ ap (drop 1) (sym (drop-append-le (length xs - 50) xs (x ∷ []) (omega arith)))
    ∙ drop-drop 1 (length xs - 50) (xs ++ (x ∷ []))
    ∙ ap (λ j. drop j (xs ++ (x ∷ []))) d

ring_push : (xs : List ℕ) (x : ℕ) → pushed (ring_of xs) x ≡ ring_of (xs ++ (x ∷ []))
ring_push xs x =
    let l : 50 ≤ length (replicate 50 0 ++ xs) = simp length-append (omega arith) in
    push_last (replicate 50 0 ++ xs) x l ∙ ap last_fifty (append_assoc (replicate 50 0) xs (x ∷ []))

pub ring_more : (stores : Bool) (r xs : List ℕ) (x : ℕ) → r ≡ ring_of xs → cond stores (pushed r x) r ≡ ring_of (cond stores (xs ++ (x ∷ [])) xs)
ring_more true r xs x e = ap (λ y. pushed y x) e ∙ ring_push xs x
ring_more false r xs x e = e

-- ---- settings

pub setting_written : (bytes : List ℕ) (k n byte old : ℕ) → length bytes ≡ 70 → n < 70 → setting bytes n ≡ old → setting (set bytes k (bit_and byte (mask_of k))) n ≡ cond (eqb k n) (bit_and byte (mask_of n)) old
unfolding setting
setting_written bytes k n byte old l h is =
    elim (cases_eq k n) [
      | inl e ↦ rw (eq-eqb k n e, e) (get_or-set_same bytes n (bit_and byte (mask_of n)) 0 (omega arith))
      | inr ne ↦ rw (ne_eqb k n ne) (get_or-set_other bytes k n (bit_and byte (mask_of k)) 0 (λ q. ne (sym q)) ∙ is)
    ]

pub settings_length : (m : Model) (e : Event) → length (step m e).settings ≡ length m.settings
unfolding step
settings_length m (tick i v) = refl
settings_length m (pin w l) = refl
settings_length m (trip t) = refl
settings_length m (write n byte) = length-set m.settings n _
settings_length m (block s) = refl

-- ---- settling leaves M and the channel as it found them

channel_bools : (was m latched : Bool) → (m && not (cond (was && not m) false latched)) ≡ (m && not latched)
channel_bools was false latched = refl
channel_bools true true latched = refl
channel_bools false true latched = refl

pub settled_channel : (M C : Bool) (m : Model) → channel (settled_by M C m) ≡ channel m
unfolding channel majority
settled_channel M C m = channel_bools M (majority m) m.latched

pub settled_majority : (M C : Bool) (m : Model) → majority (settled_by M C m) ≡ majority m
unfolding majority
settled_majority M C m = refl

pub settled_forgets : (M C : Bool) (m : Model) (s : Signal) → forgets C (settled_by M C m) s ≡ forgets C m s
settled_forgets M C m s = ap (λ x. not (holds m.settings s) && (resets m.settings s || (not C && x))) (settled_channel M C m)

pub never_falls : (m : Model) → falls (majority m) m ≡ false
never_falls m = and-not_self (majority m)

still_bools : (h r c b : Bool) → (not h && (r || (not c && c))) ≡ true → (not h && (r || (not b && c))) ≡ true
still_bools true r c b e = e
still_bools false true c b e = refl
still_bools false false true b e = absurd (both_ways false refl e)
still_bools false false false b e = absurd (both_ways false refl e)

-- a reset bit that stands has already made the signal forget
pub still_forgets : (b : Bool) (m : Model) (s : Signal) → forgets (channel m) m s ≡ true → forgets b m s ≡ true
still_forgets b m s e = still_bools (holds m.settings s) (resets m.settings s) (channel m) b e

-- what was on before the event, and was needed for the flag, is still on where settling leaves the flag
pub flag_kept : (was on flag : Bool) → (flag ≡ true → was ≡ true) → cond (was && not on) false flag ≡ true → on ≡ true
flag_kept true true flag h e = refl
flag_kept true false flag h e = absurd (both_ways false refl e)
flag_kept false on flag h e = absurd (both_ways false refl (h e))

-- ---- causes

pub has_logs : (f : Cause → Bool) (q : Cause) → has q (logs f) ≡ f q
has_logs f (cause.Trip Fast) = refl
has_logs f (cause.Trip Slow) = refl
has_logs f (cause.Compare Uv1) = refl
has_logs f (cause.Compare Uv2) = refl
has_logs f (cause.Compare Ov1) = refl
has_logs f (cause.Compare Ov2) = refl
has_logs f (cause.Compare Oi) = refl

-- ---- a readout of a ring leaves the settings and what the rings hold

pub block_settings : (m : Model) (r : Signal) → (step m (block r)).settings ≡ m.settings
unfolding step
block_settings m r = refl

pub block_ring : (m : Model) (r s : Signal) → (monitor s (step m (block r))).ring ≡ (monitor s m).ring
block_ring m r s = ap (λ t. t.ring) (monitor_step s m (block r))
