-- The registers that keep a written bit are the settings.
use Rattle.std.proofs.Common.{◌≡◌, ℕ, true, false, cond, not, eqb, List, [], ◌∷◌, refl}
use Rattle.std.proofs.lemmas.Bool.{and_parts}
use Rattle.registers.specs.Rows.{Row, rows, in_rows, mask_of, listed}
use Rattle.registers.proofs.Tables.{all_rows}

keeping_rows : (rs : List Row) → all_rows (λ r. not (eqb r.mask 0)) rs ≡ true → (n : ℕ) → not (eqb (in_rows (λ r. r.mask) 0 rs n) 0) ≡ in_rows (λ r. true) false rs n
keeping_rows [] t n = refl
keeping_rows (r ∷ rs) t n =
    let parts = and_parts (not (eqb r.mask 0)) (all_rows (λ r. not (eqb r.mask 0)) rs) t in
    let rest = keeping_rows rs parts.1 n in
    elim (eqb n r.register)
    as (λ b. not (eqb (cond b r.mask (in_rows (λ r. r.mask) 0 rs n)) 0) ≡ cond b true (in_rows (λ r. true) false rs n))
    [ true ↦ parts.0 | false ↦ rest ]

pub keeping : (n : ℕ) → not (eqb (mask_of n) 0) ≡ listed n
unfolding mask_of listed
keeping n = keeping_rows rows refl n
