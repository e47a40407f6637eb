use Rattle.std.proofs.Common.{◌≡◌, ℕ, ◌<◌, refl, arith, lit<}
use Rattle.registers.specs.declared.pins.Strap.{Strap}
use Rattle.registers.specs.declared.pins.Strap.TheVariants.{Low, High, Open}
use Rattle.registers.specs.declared.straps.Row.{Row}
use Rattle.registers.proofs.straps.address.Goals as goal

-- what holds at each of the nine pairs, in the table's order, holds at any
pairs : (P : Strap → Strap → Type 0) → P Low Low → P Low High → P Low Open → P High Low → P High High → P High Open → P Open Low → P Open High → P Open Open → (a b : Strap) → P a b
pairs P ll lh lo hl hh ho ol oh oo Low Low = ll
pairs P ll lh lo hl hh ho ol oh oo Low High = lh
pairs P ll lh lo hl hh ho ol oh oo Low Open = lo
pairs P ll lh lo hl hh ho ol oh oo High Low = hl
pairs P ll lh lo hl hh ho ol oh oo High High = hh
pairs P ll lh lo hl hh ho ol oh oo High Open = ho
pairs P ll lh lo hl hh ho ol oh oo Open Low = ol
pairs P ll lh lo hl hh ho ol oh oo Open High = oh
pairs P ll lh lo hl hh ho ol oh oo Open Open = oo

-- each pair has a row, so the loop has returned
pub unreachable-requires : goal.unreachable-requires
unreachable-requires c =
    let d : Row = record { a1 = Low; a0 = Low; address = 0 } in
    let no : (k : ℕ) → k < 9 → _ = λ k h. c.loop-row.invariant k d (omega arith) in
    pairs (λ x y. x ≡ c.args.a1 → y ≡ c.args.a0 → ⊥)
    (no 0 (lit< tt)) (no 1 (lit< tt)) (no 2 (lit< tt)) (no 3 (lit< tt)) (no 4 (lit< tt)) (no 5 (lit< tt)) (no 6 (lit< tt)) (no 7 (lit< tt)) (no 8 (lit< tt))
    c.args.a1 c.args.a0 refl refl
