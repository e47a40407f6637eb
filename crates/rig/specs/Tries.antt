-- A call on the bus that a closure makes: what one run of it does to a rig, and to a buffer beside it.
use Rattle.std.specs.Prelude.{◌≡◌, ℕ, Bool, true, false, List, Result}
use Rattle.std.specs.Borrow.{MutBor}
use Rattle.rig.specs.declared.Refusal.{Refusal}
use Rattle.rig.specs.declared.Refusal.TheVariants.{Silence}
use Rattle.rig.specs.Meaning.{Meaning, Call, tick, pin, trip, outputs, put, get, block, Answer, refused, answer, next, accepts}
use Rattle.rig.specs.Refusals.{told}

-- put, get and block go over the bus
abbrev pub on_bus : Call → Bool
on_bus (tick i v) = false
on_bus (pin w l) = false
on_bus (trip t) = false
on_bus outputs = false
on_bus (put a r x) = true
on_bus (get a r) = true
on_bus (block a base n) = true

-- the call c was made at the meaning m: what it answered, with the buffer as it is then, and what it left of the rig; a refused call left the buffer
pub record Made {X : Type 0} (c : Call) (good : X → List ℕ → Answer) (m : Meaning) (before : List ℕ) (o : Result X Refusal) (n : Meaning) (after : List ℕ) : Type 0 where
  pub answers : told (λ x. good x after) o ≡ answer m c
  pub leaves : n ≡ next m c
  pub kept : accepts m c ≡ false → after ≡ before

-- each run of a closure at this buffer makes the call c on the bus, whose good answer is no silence
pub record Makes {R X : Type 0} (meaning : R → Meaning) (runs : MutBor R → MutBor (List ℕ) → Result X Refusal → MutBor R → MutBor (List ℕ) → Type 0)
    (before : List ℕ) (c : Call) (good : X → List ℕ → Answer) : Type 0 where
  pub bus : on_bus c ≡ true
  pub speaks : (x : X) (out : List ℕ) → good x out ≡ refused Silence → ⊥
  pub makes : (r s : MutBor R) (b d : MutBor (List ℕ)) (o : Result X Refusal) → b.now ≡ before → runs r b o s d → Made c good (meaning r.now) b.now o (meaning s.now) d.now
