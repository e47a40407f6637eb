-- The payload bay's part from power-up: every tick is good, and its rings read out.
use Rattle.std.proofs.Common.{◌≡◌, ℕ, zero, suc, ◌+◌, ◌≤◌, ◌<◌, true, cond, ◌&&◌, eqb, leb, List, [], ◌∷◌, ◌++◌, map, sym, refl, ap, ◌∙◌, arith}
use Rattle.std.specs.List.{range_with_len}
use Rattle.std.proofs.lemmas.List.{append-nil}
use Rattle.std.proofs.lemmas.Bool.{le-ltb}
use Rattle.samples.specs.History.{readout}
use Rattle.samples.specs.declared.ring.Resolution.{Resolution}
use Rattle.samples.specs.declared.ring.Resolution.TheVariants.{Short, Full}
use Rattle.samples.specs.declared.signal.Signal.{Signal}
use Rattle.samples.specs.declared.signal.Signal.TheVariants.{Current, Voltage}
use Rattle.registers.specs.Pins.{bay}
use Rattle.registers.specs.declared.causes.Compare.TheVariants.{Uv2, Ov2}
use Rattle.registers.specs.Rows.{mask_of, reset_of}
use Rattle.registers.specs.Settings.{first_bytes}
use Rattle.registers.specs.Questions.{setting, threshold, good_delay, resolution}
use Rattle.part.specs.Model.{Model, powered, monitor, address}
use Rattle.part.specs.Channel.{majority, channel}
use Rattle.part.specs.Tick.{good_tick}
use Rattle.part.specs.Events.{Event, write, step}
use Rattle.part.specs.Runs.{ran, after, stored, ring_of}
use Rattle.part.proofs.Stands.{stands}
use Rattle.history.proofs.Reached.{after_address}
use Rattle.rig.specs.declared.Refusal.TheVariants.{Silence, Length}
use Rattle.rig.specs.Meaning.{bytes, refused, sized, block, block_of, answer}
use Rattle.cases.specs.Ticks.{ticks, samples, TenBits, AllGood}
use Rattle.cases.specs.Bench.{rig_after, rising, two_bytes, Recording, Readouts, PowerGood}
use Rattle.cases.proofs.Good.{leaves_on, settings_kept, ran_on, delay_is, count_is, good_is, stored_is}

-- ---- a part with the channel on whose critical limits no sample is past

pub record Wide (m : Model) : Type 0 where
  pub on : channel m ≡ true
  pub lower : threshold m.settings Uv2 ≡ 0
  pub upper : threshold m.settings Ov2 ≡ 1023

wide_good : (m : Model) (i v : ℕ) → Wide m → v ≤ 1023 → good_tick m i v ≡ true
wide_good m i v w h =
    rw (w.lower, w.upper, w.on, le-ltb v 0 (omega arith), le-ltb 1023 v h)

module _ (m : Model) (i v : ℕ → ℕ) (w : Wide m) where
  wide_after : (n : ℕ) → TenBits v n → Wide (ran m (ticks i v n))
  unfolding ticks
  wide_after zero low = w
  wide_after (suc n) low =
      let before = wide_after n (λ k h. low k (omega arith)) in
      record {
        on = leaves_on (ran m (ticks i v n)) (i n) (v n) (wide_good (ran m (ticks i v n)) (i n) (v n) before (low n (omega arith)));
        lower = ap (λ b. threshold b Uv2) (settings_kept m i v (suc n)) ∙ w.lower;
        upper = ap (λ b. threshold b Ov2) (settings_kept m i v (suc n)) ∙ w.upper;
      }

  pub wide_all : (n : ℕ) → TenBits v n → AllGood m i v n
  wide_all n low k h = wide_good (ran m (ticks i v k)) (i k) (v k) (wide_after k (λ j l. low j (omega arith))) (low k h)

-- ---- power-up

pub bay_wide : Wide (powered bay)
unfolding channel majority first_bytes setting reset_of
bay_wide = record { on = refl; lower = refl; upper = refl }

bay_delay : good_delay (powered bay).settings ≡ 500
unfolding first_bytes setting reset_of
bay_delay = refl

pub bay_recording : (s : Signal) → Recording bay [] s
unfolding first_bytes setting reset_of
bay_recording Current = record { on = bay_wide.on; running = refl; run_bit = refl }
bay_recording Voltage = record { on = bay_wide.on; running = refl; run_bit = refl }

bay_good : (i v : ℕ → ℕ) (n : ℕ) → TenBits v n → (after bay (ticks i v n)).good ≡ leb 500 n
bay_good i v n low =
    good_is (powered bay) i v n refl (let none : 0 < good_delay (powered bay).settings = let long = (delay_is (powered bay).settings).0 in omega arith in none) (wide_all (powered bay) i v bay_wide n low)
    ∙ ap (λ d. leb d (0 + n)) bay_delay
    ∙ (let same : 0 + n ≡ n = omega arith in ap (leb 500) same)

pub power_good : PowerGood
power_good = record {
  counted = count_is;
  good = good_is;
  all_good = λ i v n low. wide_all (powered bay) i v bay_wide n low;
  not_yet = λ i v low. bay_good i v 499 low;
  just = λ i v low. bay_good i v 500 low;
}

-- ---- readouts

module _ (es : List Event) (i v : ℕ → ℕ) (n : ℕ) (low : TenBits v n) (w : Wide (after bay es)) (r : Recording bay es Voltage) where
  ring_is : (monitor Voltage (after bay (ticks i v n ++ es))).ring ≡ ring_of (stored bay Voltage es ++ samples Voltage i v n)
  ring_is = (stands bay (ticks i v n ++ es)).rings Voltage ∙ ap ring_of (stored_is bay es Voltage r i v n (wide_all (after bay es) i v w n low))

  settings_are : (after bay (ticks i v n ++ es)).settings ≡ (after bay es).settings
  settings_are = ap (λ m. m.settings) (ran_on (powered bay) es i v n) ∙ settings_kept (after bay es) i v n

  heard : (k : ℕ) → sized k ≡ true → answer (rig_after (ticks i v n ++ es)) (block 0x3A 0x46 k) ≡ bytes (block_of (after bay (ticks i v n ++ es)) 0x46 k)
  heard k fits =
      ap (λ t. cond t (cond (eqb 0x3A (address (after bay (ticks i v n ++ es))) && true) (bytes (block_of (after bay (ticks i v n ++ es)) 0x46 k)) (refused Silence)) (refused Length)) fits
      ∙ ap (λ a. cond (eqb 0x3A a && true) (bytes (block_of (after bay (ticks i v n ++ es)) 0x46 k)) (refused Silence)) (after_address bay (ticks i v n ++ es))

  reads : (k : ℕ) (fine : Resolution) → sized k ≡ true → resolution (after bay es).settings Voltage ≡ fine
      → answer (rig_after (ticks i v n ++ es)) (block 0x3A 0x46 k) ≡ bytes (readout fine (ring_of (stored bay Voltage es ++ samples Voltage i v n)) k)
  reads k fine fits is =
      heard k fits
      ∙ ap (λ b. bytes (readout (resolution b Voltage) (monitor Voltage (after bay (ticks i v n ++ es))).ring k)) settings_are
      ∙ ap (λ q. bytes (readout q (monitor Voltage (after bay (ticks i v n ++ es))).ring k)) is
      ∙ ap (λ xs. bytes (readout fine xs k)) ring_is

pub full_wide : Wide (after bay (write 0x3F 0 ∷ []))
unfolding channel majority first_bytes setting reset_of mask_of step
full_wide = record { on = refl; lower = refl; upper = refl }

pub full_recording : (s : Signal) → Recording bay (write 0x3F 0 ∷ []) s
unfolding channel majority first_bytes setting reset_of mask_of step
full_recording Current = record { on = full_wide.on; running = refl; run_bit = refl }
full_recording Voltage = record { on = full_wide.on; running = refl; run_bit = refl }

full_resolution : resolution (after bay (write 0x3F 0 ∷ [])).settings Voltage ≡ Full
unfolding first_bytes setting reset_of mask_of step
full_resolution = refl

short_resolution : resolution (powered bay).settings Voltage ≡ Short
unfolding first_bytes setting reset_of
short_resolution = refl

readout_full : (i : ℕ → ℕ) → readout Full (ring_of (samples Voltage i (rising 1) 51)) 100 ≡ two_bytes (map (λ k. k + 3) (range_with_len 0 49) ++ (2 ∷ []))
readout_full i = refl

readout_short : (i : ℕ → ℕ) → readout Short (ring_of (samples Voltage i (rising 4) 50)) 51 ≡ map (λ k. k + 2) (range_with_len 0 49) ++ (1 ∷ 2 ∷ [])
readout_short i = refl

pub readouts : Readouts
readouts = record {
  full = λ i.
      reads (write 0x3F 0 ∷ []) i (rising 1) 51 (λ k h. omega arith) full_wide (full_recording Voltage) 100 Full refl full_resolution
      ∙ ap bytes (readout_full i);
  short = λ i.
      ap (λ es. answer (rig_after es) (block 0x3A 0x46 51)) (sym (append-nil (ticks i (rising 4) 50)))
      ∙ reads [] i (rising 4) 50 (λ k h. omega arith) bay_wide (bay_recording Voltage) 51 Short refl short_resolution
      ∙ ap bytes (readout_short i);
}
