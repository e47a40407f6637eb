-- The report on the part that a history reaches shows the history's points.
use Rattle.std.proofs.Common.{◌≡◌, ℕ, ◌+◌, ◌-◌, ◌*◌, ◌/◌, ◌%◌, ◌<◌, Bool, true, false, cond, ◌&&◌, eqb, ltb, List, [], ◌∷◌, ◌++◌, map, length, get_or, replicate, Some, None, sym, refl, ap, ◌∙◌, inl, inr, ⊎_elim, arith, lit<}
use Rattle.std.specs.List.{range_with_len}
use Rattle.std.proofs.lemmas.List.FromFn.{fill_by_all}
use Rattle.std.proofs.lemmas.List.{length-append, length-drop, get_or-map}
use Rattle.std.proofs.lemmas.Bool.{both_ways, cases_Bool, cases_eq, ne_eqb, eq-eqb, eqb-true, cond-true, cond-false, ltb-true, lt-ltb, and_parts}
use Rattle.samples.specs.History.{sample_at}
use Rattle.samples.specs.declared.ring.Resolution.TheVariants.{Short, Full}
use Rattle.samples.specs.declared.signal.Signal.{Signal}
use Rattle.samples.specs.declared.signal.Signal.TheVariants.{Current, Voltage}
use Rattle.samples.proofs.Rounds.{getD_turned}
use Rattle.registers.specs.declared.causes.Trip.TheVariants.{Fast, Slow}
use Rattle.registers.specs.declared.causes.Compare.TheVariants.{Uv1, Uv2, Ov1, Ov2, Oi}
use Rattle.registers.specs.declared.causes.Cause.{Cause}
use Rattle.registers.specs.declared.causes.Cause.TheVariants as cause
use Rattle.registers.specs.Causes.{alerted}
use Rattle.registers.specs.Pins.{high, level_of}
use Rattle.registers.specs.Questions.{setting, bit, run_weight, resolution}
use Rattle.registers.specs.Rows.{Row, rows, in_rows, listed}
use Rattle.part.specs.declared.events.Pin.TheVariants.{On, Pol}
use Rattle.part.specs.Model.{Model, monitor}
use Rattle.part.specs.Shown.{shown}
use Rattle.rig.specs.Meaning.{Meaning}
use Rattle.part.specs.Runs.{counted, ExtremesOf, ring_of, stored}
use Rattle.history.specs.Histories.{History, events}
use Rattle.history.specs.Points.{smallest_of, largest_of, smallest_point, largest_point, cause_point, short_point, as_fine, ring_point}
use Rattle.history.proofs.Points.{HasPoints}
use Rattle.report.specs.View.{pair_in, latest_place, smallest_place, largest_place, smallest_in, largest_in, cause_in, word_in, ring_place}
use Rattle.reading.specs.Report.{as_told, ring_told, report}
use Rattle.reading.specs.Laws.{in_ten_bits, Shows}
use Rattle.reading.proofs.Bytes.{pair_back, high_flag, low_flag, one_flag, first_flag, last_flag, prot_of, prot_back, on_back, level_back}
use Rattle.reading.proofs.Places.{length_report, register_at, told_is, length_told, sample_at_place}

-- ---- a setting is none of the other registers, and lies below 70

apart : (k c : ℕ) → listed k ≡ true → listed c ≡ false → eqb k c ≡ false
apart k c l n = ne_eqb k c (λ e. both_ways (listed c) n (ap listed (sym e) ∙ l))

plain : (p : Model) (k : ℕ) → listed k ≡ true → shown p k ≡ setting p.settings k
unfolding listed shown
plain p k l =
    rw (apart k 0x00 l refl, apart k 0x01 l refl, apart k 0x02 l refl, apart k 0x03 l refl, apart k 0x08 l refl, apart k 0x09 l refl, apart k 0x0A l refl, apart k 0x0B l refl, apart k 0x0C l refl, apart k 0x0D l refl, apart k 0x0E l refl, apart k 0x0F l refl, apart k 0x31 l refl, apart k 0x32 l refl, apart k 0x34 l refl, apart k 0x35 l refl, apart k 0x36 l refl, apart k 0x37 l refl)

abbrev under : List Row → Bool
under [] = true
under (r ∷ rs) = cond (ltb r.register 70) (under rs) false

under_at : (rs : List Row) → under rs ≡ true → (k : ℕ) → in_rows (λ r. true) false rs k ≡ true → k < 70
under_at [] u k l = absurd (both_ways false refl l)
under_at (r ∷ rs) u k l =
    elim (cases_Bool (ltb r.register 70)) [
      | inl t ↦ elim (cases_eq k r.register) [
        | inl e ↦ let h = ltb-true r.register 70 t in omega arith
        | inr ne ↦ under_at rs (sym (cond-true (ltb r.register 70) (under rs) false t) ∙ u) k (sym (cond-false (eqb k r.register) true (in_rows (λ r. true) false rs k) (ne_eqb k r.register ne)) ∙ l)
      ]
      | inr f ↦ absurd (both_ways false refl (sym (cond-false (ltb r.register 70) (under rs) false f) ∙ u))
    ]

pub listed_below : (k : ℕ) → listed k ≡ true → k < 70
unfolding listed
listed_below k l = under_at rows refl k l

pub resolution_listed : listed 0x3F ≡ true
unfolding listed
resolution_listed = refl

-- ---- rings

pub ring_fifty : (xs : List ℕ) → length (ring_of xs) ≡ 50
ring_fifty xs =
    let l = length-append (replicate 50 0) xs in
    length-drop (length (replicate 50 0 ++ xs) - 50) (replicate 50 0 ++ xs) ∙ omega arith

-- the sample that a readout has 49 after its first is the oldest
oldest_last : (xs : List ℕ) (k : ℕ) → length xs ≡ 50 → k < 50 → sample_at xs (k + 49) ≡ get_or xs k 0
oldest_last xs k n h = getD_turned xs 1 ((k + 49) % 50) k 0 n (lit< tt) (omega arith) (omega arith)

fine_back : (short : Bool) (xs : List ℕ) (k : ℕ) → k < length xs → as_told (cond short Short Full) (get_or xs k 0) ≡ in_ten_bits short (get_or (as_fine short xs) k 0)
fine_back true xs k h = ap (λ x. x * 4) (sym (get_or-map (λ x. x / 4) xs k 0 0 h))
fine_back false xs k h = refl

module _ (h : History) (m : Meaning) (has : HasPoints h m) where
  bytes_at : (n : ℕ) → n < 70 → get_or (report m.part) n 0 ≡ shown m.part n
  bytes_at n l = register_at m.part n l

  -- ---- rings, as fine as their resolution bits

  fine_is : (s : Signal) → resolution m.part.settings s ≡ cond (short_point h s) Short Full
  fine_is s = ap (λ x. cond (bit (run_weight s) x) Short Full) (has.settings 0x3F (lit< tt))

  pub ring_is : (s : Signal) (k : ℕ) → k < 50 → get_or (ring_told m.part s) k 0 ≡ in_ten_bits (short_point h s) (get_or (ring_point h s) k 0)
  unfolding ring_point
  ring_is s k l =
      let xs = ring_of (stored h.pins s (events h)) in
      let n : length (ring_of (stored h.pins s (events h))) ≡ 50 = ring_fifty (stored h.pins s (events h)) in
      told_is m.part s k l
      ∙ ap (λ r. as_told r (sample_at (monitor s m.part).ring (k + 49))) (fine_is s)
      ∙ ap (λ ys. as_told (cond (short_point h s) Short Full) (sample_at ys (k + 49))) (has.rings s)
      ∙ ap (as_told (cond (short_point h s) Short Full)) (oldest_last (ring_of (stored h.pins s (events h))) k n l)
      ∙ fine_back (short_point h s) (ring_of (stored h.pins s (events h))) k (omega arith)

  pub ring_told_is : (s : Signal) → ring_told m.part s ≡ map (λ k. in_ten_bits (short_point h s) (get_or (ring_point h s) k 0)) (range_with_len 0 50)
  ring_told_is s = fill_by_all (λ k. in_ten_bits (short_point h s) (get_or (ring_point h s) k 0)) (ring_told m.part s) 50 0 (length_told m.part s) (ring_is s)

  -- ---- pairs of registers

  pair_shows : (n x : ℕ) → n + 1 < 70 → shown m.part n ≡ x / 4 → shown m.part (n + 1) ≡ x % 4 → pair_in (report m.part) n ≡ x
  pair_shows n x l hi lo = pair_back x (get_or (report m.part) n 0) (get_or (report m.part) (n + 1) 0) (bytes_at n (omega arith) ∙ hi) (bytes_at (n + 1) l ∙ lo)

  latest_shows : (s : Signal) → pair_in (report m.part) (latest_place s) ≡ (monitor s m.part).latest
  unfolding shown
  latest_shows Current = pair_shows 0x00 m.part.current.latest (lit< tt) refl refl
  latest_shows Voltage = pair_shows 0x02 m.part.voltage.latest (lit< tt) refl refl

  smallest_shows : (s : Signal) → pair_in (report m.part) (smallest_place s) ≡ (monitor s m.part).smallest
  unfolding shown
  smallest_shows Current = pair_shows 0x08 m.part.current.smallest (lit< tt) refl refl
  smallest_shows Voltage = pair_shows 0x0C m.part.voltage.smallest (lit< tt) refl refl

  largest_shows : (s : Signal) → pair_in (report m.part) (largest_place s) ≡ (monitor s m.part).largest
  unfolding shown
  largest_shows Current = pair_shows 0x0A m.part.current.largest (lit< tt) refl refl
  largest_shows Voltage = pair_shows 0x0E m.part.voltage.largest (lit< tt) refl refl

  -- ---- extremes, or none

  smallest_or_none : (xs : List ℕ) (x y : ℕ) → ExtremesOf xs x y → cond (eqb x 1023 && eqb y 0) None (Some x) ≡ smallest_of xs
  smallest_or_none [] x y e = rw (eq-eqb x 1023 e.smallest_is, eq-eqb y 0 e.largest_is)
  smallest_or_none (z ∷ zs) x y e =
      ⊎_elim
      (λ (t : (eqb x 1023 && eqb y 0) ≡ true).
      let both = and_parts (eqb x 1023) (eqb y 0) t in
      absurd (let no = e.none_counted (eqb-true x 1023 both.0) (eqb-true y 0 both.1) in let z : ◌≡◌ {A = ℕ} 0 1 = cc in omega arith))
      (λ (t : (eqb x 1023 && eqb y 0) ≡ false). cond-false (eqb x 1023 && eqb y 0) None (Some x) t ∙ ap Some e.smallest_is)
      (cases_Bool (eqb x 1023 && eqb y 0))

  largest_or_none : (xs : List ℕ) (x y : ℕ) → ExtremesOf xs x y → cond (eqb x 1023 && eqb y 0) None (Some y) ≡ largest_of xs
  largest_or_none [] x y e = rw (eq-eqb x 1023 e.smallest_is, eq-eqb y 0 e.largest_is)
  largest_or_none (z ∷ zs) x y e =
      ⊎_elim
      (λ (t : (eqb x 1023 && eqb y 0) ≡ true).
      let both = and_parts (eqb x 1023) (eqb y 0) t in
      absurd (let no = e.none_counted (eqb-true x 1023 both.0) (eqb-true y 0 both.1) in let z : ◌≡◌ {A = ℕ} 0 1 = cc in omega arith))
      (λ (t : (eqb x 1023 && eqb y 0) ≡ false). cond-false (eqb x 1023 && eqb y 0) None (Some y) t ∙ ap Some e.largest_is)
      (cases_Bool (eqb x 1023 && eqb y 0))

  smallest_shown : (s : Signal) → smallest_in (report m.part) s ≡ smallest_point h s
  unfolding smallest_point
  smallest_shown s =
      ap (λ x. cond (eqb x 1023 && eqb (pair_in (report m.part) (largest_place s)) 0) None (Some x)) (smallest_shows s)
      ∙ ap (λ y. cond (eqb (monitor s m.part).smallest 1023 && eqb y 0) None (Some (monitor s m.part).smallest)) (largest_shows s)
      ∙ smallest_or_none (counted h.pins s (events h)) (monitor s m.part).smallest (monitor s m.part).largest (has.extremes s)

  largest_shown : (s : Signal) → largest_in (report m.part) s ≡ largest_point h s
  unfolding largest_point
  largest_shown s =
      ap (λ x. cond (eqb x 1023 && eqb (pair_in (report m.part) (largest_place s)) 0) None (Some (pair_in (report m.part) (largest_place s)))) (smallest_shows s)
      ∙ ap (λ y. cond (eqb (monitor s m.part).smallest 1023 && eqb y 0) None (Some y)) (largest_shows s)
      ∙ largest_or_none (counted h.pins s (events h)) (monitor s m.part).smallest (monitor s m.part).largest (has.extremes s)

  -- ---- flags

  cause_shown : (q : Cause) → cause_in (report m.part) q ≡ cause_point h q
  unfolding shown
  cause_shown (cause.Trip Fast) = ap (bit 1) (bytes_at 0x31 (lit< tt)) ∙ low_flag m.part.logs.slow m.part.logs.fast ∙ has.causes (cause.Trip Fast)
  cause_shown (cause.Trip Slow) = ap (bit 16) (bytes_at 0x31 (lit< tt)) ∙ high_flag m.part.logs.slow m.part.logs.fast ∙ has.causes (cause.Trip Slow)
  cause_shown (cause.Compare Uv1) = ap (bit 1) (bytes_at 0x35 (lit< tt)) ∙ low_flag m.part.logs.compares.uv2 m.part.logs.compares.uv1 ∙ has.causes (cause.Compare Uv1)
  cause_shown (cause.Compare Uv2) = ap (bit 16) (bytes_at 0x35 (lit< tt)) ∙ high_flag m.part.logs.compares.uv2 m.part.logs.compares.uv1 ∙ has.causes (cause.Compare Uv2)
  cause_shown (cause.Compare Ov1) = ap (bit 1) (bytes_at 0x36 (lit< tt)) ∙ low_flag m.part.logs.compares.ov2 m.part.logs.compares.ov1 ∙ has.causes (cause.Compare Ov1)
  cause_shown (cause.Compare Ov2) = ap (bit 16) (bytes_at 0x36 (lit< tt)) ∙ high_flag m.part.logs.compares.ov2 m.part.logs.compares.ov1 ∙ has.causes (cause.Compare Ov2)
  cause_shown (cause.Compare Oi) = ap (bit 1) (bytes_at 0x37 (lit< tt)) ∙ one_flag m.part.logs.compares.oi ∙ has.causes (cause.Compare Oi)

  pub shows : Shows h (report m.part)
  unfolding shown
  shows = record {
    size = length_report m.part;
    settings = λ n l. cond-true (listed n) (Some (get_or (report m.part) n 0)) None l ∙ ap Some (bytes_at n (listed_below n l) ∙ plain m.part n l ∙ has.settings n (listed_below n l));
    prot = ap prot_of (bytes_at 0x32 (lit< tt)) ∙ prot_back m.part.pins.prot (high m.part.pins.on) ∙ ap Some has.prot;
    on = ap (λ b. level_of (bit 1 b)) (bytes_at 0x32 (lit< tt)) ∙ ap level_of (on_back m.part.pins.prot (high m.part.pins.on)) ∙ level_back m.part.pins.on ∙ has.levels On;
    pol = ap (λ b. level_of (bit 32 b)) (bytes_at 0x34 (lit< tt)) ∙ ap level_of (first_flag (high m.part.pins.pol) (alerted m.part.logs) m.part.good) ∙ level_back m.part.pins.pol ∙ has.levels Pol;
    good = ap (bit 1) (bytes_at 0x34 (lit< tt)) ∙ last_flag (high m.part.pins.pol) (alerted m.part.logs) m.part.good ∙ has.good;
    latest = λ s. latest_shows s ∙ has.latest s;
    smallest = smallest_shown;
    largest = largest_shown;
    causes = cause_shown;
    rings = λ s k l. cond-true (ltb k 50) (Some (word_in (report m.part) (ring_place s + 2 * k))) None (lt-ltb k 50 l) ∙ ap Some (sample_at_place m.part s k l ∙ ring_is s k l);
  }
