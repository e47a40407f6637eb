-- The registers at power-up, all seventy at once.
use Rattle.std.proofs.Common.{◌≡◌, map, get_or, sym, refl, ap, ◌∙◌, arith}
use mathlib.Core.Path.{subst⁻¹}
use Rattle.std.specs.List.{range_with_len}
use Rattle.std.proofs.lemmas.List.FromFn.{get_or-map-range_with_len}
use Rattle.registers.specs.declared.pins.Pins.{Pins}
use Rattle.registers.specs.declared.pins.Level.{Level}
use Rattle.registers.specs.declared.pins.Level.TheVariants.{Low, High}
use Rattle.registers.specs.Rows.{reset_of}
use Rattle.registers.specs.Questions.{setting}
use Rattle.registers.specs.Settings.{first_bytes}
use Rattle.part.specs.Model.{Model, powered}
use Rattle.part.specs.Shown.{shown, byte_of, first_shown, PoweredUp}

abbrev with_pol : Pins → Level → Pins
with_pol p pol = record { on = p.on; hwen = p.hwen; pol = pol; prot = p.prot; irng = p.irng; a1 = p.a1; a0 = p.a0 }

-- antt computes both lists of seventy bytes
all_first : (p : Pins) (pol : Level) → map (byte_of (powered (with_pol p pol))) (range_with_len 0 70) ≡ map (first_shown (with_pol p pol)) (range_with_len 0 70)
unfolding reset_of first_bytes setting
all_first p Low = refl
all_first p High = refl

pub powered_up : (m : Model) (p : Pins) → m ≡ powered p → PoweredUp m p
unfolding shown
powered_up m p is n low =
    let at : PoweredUp (powered p) p = λ k h. sym (get_or-map-range_with_len (byte_of (powered p)) 0 70 k k 0 h (omega arith)) ∙ ap (λ bytes. get_or bytes k 0) (all_first p p.pol) ∙ get_or-map-range_with_len (first_shown p) 0 70 k k 0 h (omega arith) in
    subst⁻¹ (λ (x : Model). PoweredUp x p) is at n low
