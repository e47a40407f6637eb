-- Reports tell histories apart.
use Rattle.std.proofs.Common.{◌≡◌, ℕ, ◌/◌, ◌<◌, Bool, true, false, List, [], ◌∷◌, ◌++◌, map, length, get_or, Some, None, Option, sym, refl, ap, ◌∙◌, inl, inr, arith}
use mathlib.Core.Path.{subst⁻¹}
use Rattle.std.specs.List.{range_with_len}
use Rattle.std.proofs.lemmas.List.FromFn.{get_or-map-range_with_len, length-map-range_with_len, fill_by_all}
use Rattle.std.proofs.lemmas.List.{length-map, ext_get_or}
use Rattle.std.proofs.lemmas.Bool.{cases_Bool}
use Rattle.samples.specs.declared.signal.Signal.{Signal}
use Rattle.samples.specs.declared.signal.Signal.TheVariants.{Current, Voltage}
use Rattle.registers.specs.declared.causes.Trip.TheVariants.{Fast, Slow}
use Rattle.registers.specs.declared.causes.Compare.TheVariants.{Uv1, Uv2, Ov1, Ov2, Oi}
use Rattle.registers.specs.declared.causes.Cause.TheVariants as cause
use Rattle.registers.specs.Questions.{setting, bit, run_weight}
use Rattle.registers.specs.Rows.{listed}
use Rattle.part.specs.declared.events.Pin.TheVariants.{On, Pol}
use Rattle.part.specs.Model.{monitor}
use Rattle.part.specs.Shown.{shown}
use Rattle.rig.specs.Meaning.{Meaning}
use Rattle.part.specs.Runs.{least, greatest, counted, ring_of, stored}
use Rattle.history.specs.Histories.{History, reached, events}
use Rattle.history.specs.Points.{setting_point, smallest_of, largest_of, smallest_point, largest_point, short_point, as_fine, ring_point, Agree}
use Rattle.history.proofs.Points.{HasPoints, has_points}
use Rattle.reading.specs.Report.{registers, ring_told, words, report}
use Rattle.reading.specs.Laws.{in_ten_bits, Shows, TellsOf}
use Rattle.reading.proofs.Shows.{resolution_listed, ring_fifty, ring_told_is, shows}

-- ---- what bytes show of two histories is the same

same_some : (x y : ℕ) → Some x ≡ Some y → x ≡ y
same_some x y e = cc

ten_bits_back : (short : Bool) (x y : ℕ) → in_ten_bits short x ≡ in_ten_bits short y → x ≡ y
ten_bits_back true x y e = omega arith
ten_bits_back false x y e = e

fine_length : (short : Bool) (xs : List ℕ) → length (as_fine short xs) ≡ length xs
fine_length true xs = length-map xs (λ x. x / 4)
fine_length false xs = refl

ring_length : (h : History) (s : Signal) → length (ring_point h s) ≡ 50
unfolding ring_point
ring_length h s = fine_length (short_point h s) (ring_of (stored h.pins s (events h))) ∙ ring_fifty (stored h.pins s (events h))

pub agree_from : (h k : History) (bytes : List ℕ) → Shows h bytes → Shows k bytes → Agree h k
agree_from h k bytes a b =
    let settings_same : (n : ℕ) → listed n ≡ true → setting_point h n ≡ setting_point k n = λ n l. same_some (setting_point h n) (setting_point k n) (sym (a.settings n l) ∙ b.settings n l) in
    let short_same : (s : Signal) → short_point k s ≡ short_point h s = λ s. ap (λ x. bit (run_weight s) x) (sym (settings_same 0x3F resolution_listed)) in
    record {
      settings = settings_same;
      prot = let e = sym a.prot ∙ b.prot in cc;
      levels = elim [ On ↦ sym a.on ∙ b.on | Pol ↦ sym a.pol ∙ b.pol ];
      good = sym a.good ∙ b.good;
      latest = λ s. sym (a.latest s) ∙ b.latest s;
      smallest = λ s. sym (a.smallest s) ∙ b.smallest s;
      largest = λ s. sym (a.largest s) ∙ b.largest s;
      causes = λ q. sym (a.causes q) ∙ b.causes q;
      rings = λ s.
          ext_get_or 0 (ring_point h s) (ring_point k s) (ring_length h s ∙ sym (ring_length k s))
          (λ i l.
          let low : i < 50 = let n = ring_length h s in omega arith in
          ten_bits_back (short_point h s) (get_or (ring_point h s) i 0) (get_or (ring_point k s) i 0)
          (same_some _ _ (sym (a.rings s i low) ∙ b.rings s i low) ∙ ap (λ t. in_ten_bits t (get_or (ring_point k s) i 0)) (short_same s)));
    }

-- ---- two parts whose histories agree have one report

abbrev low_of : Option ℕ → ℕ
low_of None = 1023
low_of (Some x) = x

abbrev high_of : Option ℕ → ℕ
high_of None = 0
high_of (Some x) = x

least_is : (xs : List ℕ) → least xs ≡ low_of (smallest_of xs)
least_is [] = refl
least_is (x ∷ xs) = refl

greatest_is : (xs : List ℕ) → greatest xs ≡ high_of (largest_of xs)
greatest_is [] = refl
greatest_is (x ∷ xs) = refl

smallest_is : (h : History) (m : Meaning) → HasPoints h m → (s : Signal) → (monitor s m.part).smallest ≡ low_of (smallest_point h s)
unfolding smallest_point
smallest_is h m has s = (has.extremes s).smallest_is ∙ least_is (counted h.pins s (events h))

largest_is : (h : History) (m : Meaning) → HasPoints h m → (s : Signal) → (monitor s m.part).largest ≡ high_of (largest_point h s)
unfolding largest_point
largest_is h m has s = (has.extremes s).largest_is ∙ greatest_is (counted h.pins s (events h))

module _ (h k : History) (m n : Meaning) (a : HasPoints h m) (b : HasPoints k n) (g : Agree h k) where
  same_setting : (r : ℕ) → r < 70 → setting m.part.settings r ≡ setting n.part.settings r
  same_setting r l =
      elim (cases_Bool (listed r)) [
        | inl t ↦ a.settings r l ∙ g.settings r t ∙ sym (b.settings r l)
        | inr f ↦ a.unlisted r l f ∙ sym (b.unlisted r l f)
      ]

  same_latest : (s : Signal) → (monitor s m.part).latest ≡ (monitor s n.part).latest
  same_latest s = a.latest s ∙ g.latest s ∙ sym (b.latest s)

  same_smallest : (s : Signal) → (monitor s m.part).smallest ≡ (monitor s n.part).smallest
  same_smallest s = smallest_is h m a s ∙ ap low_of (g.smallest s) ∙ sym (smallest_is k n b s)

  same_largest : (s : Signal) → (monitor s m.part).largest ≡ (monitor s n.part).largest
  same_largest s = largest_is h m a s ∙ ap high_of (g.largest s) ∙ sym (largest_is k n b s)

  same_shown : (r : ℕ) → r < 70 → shown m.part r ≡ shown n.part r
  unfolding shown
  same_shown r l =
      let st = same_setting r l in
      let pr = a.prot ∙ g.prot ∙ sym b.prot in
      let go = a.good ∙ g.good ∙ sym b.good in
      let on = a.levels On ∙ g.levels On ∙ sym (b.levels On) in
      let po = a.levels Pol ∙ g.levels Pol ∙ sym (b.levels Pol) in
      let lc = same_latest Current in
      let lv = same_latest Voltage in
      let sc = same_smallest Current in
      let sv = same_smallest Voltage in
      let gc = same_largest Current in
      let gv = same_largest Voltage in
      let c1 = a.causes (cause.Trip Fast) ∙ g.causes (cause.Trip Fast) ∙ sym (b.causes (cause.Trip Fast)) in
      let c2 = a.causes (cause.Trip Slow) ∙ g.causes (cause.Trip Slow) ∙ sym (b.causes (cause.Trip Slow)) in
      let c3 = a.causes (cause.Compare Uv1) ∙ g.causes (cause.Compare Uv1) ∙ sym (b.causes (cause.Compare Uv1)) in
      let c4 = a.causes (cause.Compare Uv2) ∙ g.causes (cause.Compare Uv2) ∙ sym (b.causes (cause.Compare Uv2)) in
      let c5 = a.causes (cause.Compare Ov1) ∙ g.causes (cause.Compare Ov1) ∙ sym (b.causes (cause.Compare Ov1)) in
      let c6 = a.causes (cause.Compare Ov2) ∙ g.causes (cause.Compare Ov2) ∙ sym (b.causes (cause.Compare Ov2)) in
      let c7 = a.causes (cause.Compare Oi) ∙ g.causes (cause.Compare Oi) ∙ sym (b.causes (cause.Compare Oi)) in
      cc

  same_registers : registers m.part ≡ registers n.part
  unfolding registers
  same_registers =
      fill_by_all (shown n.part) (map (shown m.part) (range_with_len 0 70)) 70 0 (length-map-range_with_len (shown m.part) 0 70)
      (λ r l. get_or-map-range_with_len (shown m.part) 0 70 r r 0 l (omega arith) ∙ same_shown r l)

  same_ring : (s : Signal) → ring_told m.part s ≡ ring_told n.part s
  same_ring s =
      ring_told_is h m a s
      ∙ ap (λ t. map (λ k. in_ten_bits t (get_or (ring_point h s) k 0)) (range_with_len 0 50)) (ap (λ x. bit (run_weight s) x) (g.settings 0x3F resolution_listed))
      ∙ ap (λ xs. map (λ i. in_ten_bits (short_point k s) (get_or xs i 0)) (range_with_len 0 50)) (g.rings s)
      ∙ sym (ring_told_is k n b s)

  pub same_report : report m.part ≡ report n.part
  unfolding report
  same_report =
      ap (λ x. x ++ (words (ring_told m.part Voltage) ++ words (ring_told m.part Current))) same_registers
      ∙ ap (λ x. registers n.part ++ (words x ++ words (ring_told m.part Current))) (same_ring Voltage)
      ∙ ap (λ x. registers n.part ++ (words (ring_told n.part Voltage) ++ words x)) (same_ring Current)

-- ---- both ways

-- the bytes are the report on a rig with the history h
pub tells : (h k : History) (m : Meaning) (bytes : List ℕ) → m ≡ reached h → bytes ≡ report m.part → TellsOf h k bytes
tells h k m bytes e is =
    let a = has_points h m e in
    let b = has_points k (reached k) refl in
    record {
      apart = λ same. agree_from h k bytes (at h bytes (report m.part) is (shows h m a)) (at k bytes (report (reached k).part) same (shows k (reached k) b));
      alike = λ g. is ∙ same_report h k m (reached k) a b g;
    }
  where
    at : (h : History) (xs ys : List ℕ) → xs ≡ ys → Shows h ys → Shows h xs
    at h xs ys e s = subst⁻¹ (λ (x : List ℕ). Shows h x) e s
