use Rattle.std.proofs.Common.{◌≡◌, ℕ, ◌<◌, get_or}
use Rattle.registers.specs.declared.straps.Row.{Row}
use Rattle.registers.proofs.straps.address.Given as goal

-- no row that was passed is the pair's
abbrev pub invariant-loop-row : goal.invariant-loop-row
invariant-loop-row l = (k : ℕ) (d : Row) → k < l.row-index → (get_or l.row-items k d).a1 ≡ l.a1 → (get_or l.row-items k d).a0 ≡ l.a0 → ⊥
