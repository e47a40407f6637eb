-- The part that a history reaches has the history's points.
use Rattle.std.proofs.Common.{◌≡◌, ℕ, ◌-◌, ◌<◌, Bool, true, false, cond, eqb, List, [], ◌∷◌, sym, refl, ap, ◌∙◌}
use mathlib.Core.Path.{subst⁻¹}
use lib.Bits.{bit_and, and_zero_r}
use Rattle.std.proofs.lemmas.Bool.{both_ways, ne_eqb}
use Rattle.samples.specs.declared.signal.Signal.{Signal}
use Rattle.registers.specs.declared.pins.Pins.{Pins}
use Rattle.registers.specs.declared.causes.Cause.{Cause}
use Rattle.registers.specs.Pins.{address_of}
use Rattle.registers.specs.Rows.{Row, rows, in_rows, mask_of, reset_of, listed}
use Rattle.registers.specs.Causes.{has}
use Rattle.registers.specs.Questions.{setting}
use Rattle.registers.specs.Settings.{first_byte}
use Rattle.part.specs.declared.events.Pin.{Pin}
use Rattle.part.specs.Model.{monitor, address}
use Rattle.part.specs.Events as part
use Rattle.rig.specs.Meaning.{Meaning}
use Rattle.part.specs.Runs.{after, setting_of, level, stored, ring_of, counted, ExtremesOf}
use Rattle.history.specs.Histories.{History, reached, events, heard}
use Rattle.history.specs.Points.{setting_point, prot_point, level_point, good_point, latest_point, cause_point}
use Rattle.part.proofs.Stands.{stands}
use Rattle.history.proofs.Reached.{reaches_all, after_fixed, after_address}

-- ---- a register that is no setting keeps nothing

none_in : (say : Row → ℕ) (rs : List Row) (k : ℕ) → in_rows (λ r. true) false rs k ≡ false → in_rows say 0 rs k ≡ 0
none_in say [] k f = refl
none_in say (r ∷ rs) k f = at (eqb k r.register) f (λ g. none_in say rs k g)
  where
    at : (b : Bool) → cond b true (in_rows (λ r. true) false rs k) ≡ false → (in_rows (λ r. true) false rs k ≡ false → in_rows say 0 rs k ≡ 0) → cond b (say r) (in_rows say 0 rs k) ≡ 0
    at true f more = absurd (both_ways true f refl)
    at false f more = more f

other_than : (k c : ℕ) → listed k ≡ false → listed c ≡ true → eqb k c ≡ false
other_than k c n l = ne_eqb k c (λ e. both_ways (listed c) (ap listed (sym e) ∙ n) l)

mask_none : (k : ℕ) → listed k ≡ false → mask_of k ≡ 0
unfolding listed mask_of
mask_none k f = none_in (λ r. r.mask) rows k f

reset_none : (k : ℕ) → listed k ≡ false → reset_of k ≡ 0
unfolding listed reset_of
reset_none k f = none_in (λ r. r.reset) rows k f

first_none : (p : Pins) (k : ℕ) → listed k ≡ false → first_byte p k ≡ 0
unfolding listed
first_none p k f = rw (other_than k 0x33 f refl, other_than k 0x3B f refl) (reset_none k f)

keeps_none : (t : Bool) (byte m old : ℕ) → m ≡ 0 → old ≡ 0 → cond t (bit_and byte m) old ≡ 0
keeps_none true byte m old e f = ap (bit_and byte) e ∙ and_zero_r byte
keeps_none false byte m old e f = f

setting_none : (p : Pins) (k : ℕ) → listed k ≡ false → (es : List part.Event) → setting_of p k es ≡ 0
setting_none p k f [] = first_none p k f
setting_none p k f (part.tick i v ∷ es) = setting_none p k f es
setting_none p k f (part.pin w l ∷ es) = setting_none p k f es
setting_none p k f (part.trip t ∷ es) = setting_none p k f es
setting_none p k f (part.write r byte ∷ es) = keeps_none (eqb r k) byte (mask_of k) _ (mask_none k f) (setting_none p k f es)
setting_none p k f (part.block s ∷ es) = setting_none p k f es

-- ---- the points

pub record HasPoints (h : History) (m : Meaning) : Type 0 where
  pub settings : (n : ℕ) → n < 70 → setting m.part.settings n ≡ setting_point h n
  pub unlisted : (n : ℕ) → n < 70 → listed n ≡ false → setting m.part.settings n ≡ 0
  pub prot : m.part.pins.prot ≡ prot_point h
  pub levels : (w : Pin) → level w m.part.pins ≡ level_point h w
  pub good : m.part.good ≡ good_point h
  pub latest : (s : Signal) → (monitor s m.part).latest ≡ latest_point h s
  pub extremes : (s : Signal) → ExtremesOf (counted h.pins s (events h)) (monitor s m.part).smallest (monitor s m.part).largest
  pub causes : (q : Cause) → has q m.part.logs ≡ cause_point h q
  pub rings : (s : Signal) → (monitor s m.part).ring ≡ ring_of (stored h.pins s (events h))
  pub address_is : address m.part ≡ address_of h.pins.a1 h.pins.a0
  pub owed : m.owed ≡ h.debt - heard h.pins h.calls

part_reached : (h : History) → (reached h).part ≡ after h.pins (events h)
unfolding reached events
part_reached h = (reaches_all h.pins h.debt h.calls).part_is

owed_reached : (h : History) → (reached h).owed ≡ h.debt - heard h.pins h.calls
unfolding reached
owed_reached h = (reaches_all h.pins h.debt h.calls).owed_is

after_points : (h : History) (o : ℕ) → o ≡ h.debt - heard h.pins h.calls → HasPoints h record { part = after h.pins (events h); owed = o }
unfolding setting_point level_point good_point latest_point cause_point
after_points h o e =
    let laws = stands h.pins (events h) in
    record {
      settings = laws.settings;
      unlisted = λ n l f. laws.settings n l ∙ setting_none h.pins n f (events h);
      prot = (after_fixed h.pins (events h)).prot;
      levels = laws.levels;
      good = refl;
      latest = laws.latest;
      extremes = laws.extremes;
      causes = laws.causes;
      rings = laws.rings;
      address_is = after_address h.pins (events h);
      owed = e;
    }

pub has_points : (h : History) (m : Meaning) → m ≡ reached h → HasPoints h m
has_points h m e =
    let same : m ≡ record { part = after h.pins (events h); owed = (reached h).owed } = e ∙ ap (λ x. record { part = x; owed = (reached h).owed }) (part_reached h) in
    subst⁻¹ (λ (x : Meaning). HasPoints h x) same (after_points h (reached h).owed (owed_reached h))
