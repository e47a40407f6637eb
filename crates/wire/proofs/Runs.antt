-- Runs of a bus through beats, taken apart.
use Rattle.std.proofs.Common.{◌≡◌, Bool, List, [], ◌∷◌, ◌++◌, subst}
use Rattle.bus.specs.declared.levels.Levels.{Levels}
use Rattle.bus.specs.Frames.{Beat, tell, hear, Driven, done, told, heard}

-- the same run, from an equal state
pub from : {B : Type 0} {R : B → Levels → Bool → B → Type 0} {s s' t : B} {ks : List Beat} → s ≡ s' → Driven R s ks t → Driven R s' ks t
from {R = R} {t = t} {ks = ks} e p = subst (λ x. Driven R x ks t) e p

-- where some beats end and the next begin
pub split : {B : Type 0} {R : B → Levels → Bool → B → Type 0} {t : B} (xs : List Beat) {ys : List Beat} {s : B}
    → Driven R s (xs ++ ys) t → (m : B) × Driven R s xs m × Driven R m ys t
split [] {s = s} p = (s, done, p)
split (tell l ∷ xs) (told r p) = let q = split xs p in (q.0, told r q.1, q.2)
split (hear l a ∷ xs) (heard r p) = let q = split xs p in (q.0, heard r q.1, q.2)
