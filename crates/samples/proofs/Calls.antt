-- What calls of a closure at 0, 1, .. have made, where no call changes the closure.
use Rattle.std.proofs.Common.{◌≡◌, ℕ, zero, suc, ◌+◌, ◌<◌, ◌≤◌, List, [], ◌∷◌, map, length, get_or, refl, subst, sym, ◌∙◌, ⊎_elim, arith}
use Rattle.std.proofs.lemmas.List.{length-map, get_or-map}
use Rattle.std.proofs.lemmas.List.FromFn.{fill_by_all}
use Rattle.std.proofs.lemmas.Bool.{cases_lt}
use Rattle.std.specs.Fn.{Called}
use Rattle.std.specs.Array.{IsFromFnResultFrom, IsFromFnResult}
use Rattle.std.specs.List.{range_with_len}
use denote.Param.Members.{Mut}

seen_at : {B X : Type 0} (view : B → X) (ys : List B) (j : ℕ) (x e : X) → j < length ys → ((d : B) → view (get_or ys j d) ≡ x) → get_or (map view ys) j e ≡ x
seen_at view [] j x e h is = absurd (let no : ⊥ = omega arith in no)
seen_at view (y ∷ ys) j x e h is = get_or-map view (y ∷ ys) j y e h ∙ is y

-- the call at i gives what is seen as h i
module _ {F B X : Type 0} (g : Mut F (ℕ × Unit {0}) B) (view : B → X) (h : ℕ → X) (f : F) (ys : List B) (m : ℕ) (one : (i : ℕ) (y : B) (q : F) → i < m → Called g f (i, tt) y q → (view y ≡ h i) × (q ≡ f)) where
  from_each : (i n : ℕ) (p : F) → p ≡ f → i + n ≤ m → IsFromFnResultFrom g p ys i n → (j : ℕ) → i ≤ j → j < i + n → (d : B) → view (get_or ys j d) ≡ h j
  from_each i zero p e fits t j low high d = absurd (let no : ⊥ = omega arith in no)
  from_each i (suc n) p e fits t j low high d =
      let this : (view t.1 ≡ h i) × (t.0 ≡ f) = one i t.1 t.0 (omega arith) (subst (λ (x : F). Called g x (i, tt) t.1 t.0) e t.3) in
      ⊎_elim
      (λ (here : j < i + 1).
      let at : i ≡ j = omega arith in
      subst (λ (k : ℕ). view (get_or ys k d) ≡ h k) at (subst (λ (y : B). view y ≡ h i) (sym (t.2.1 d)) this.0))
      (λ (later : i + 1 ≤ j). from_each (i + 1) n t.0 this.1 (omega arith) t.4 j later (omega arith) d)
      (cases_lt j (i + 1))

  pub made : X → IsFromFnResult g f ys m → map view ys ≡ map h (range_with_len 0 m)
  made e t =
      fill_by_all h (map view ys) m e (length-map ys view ∙ t.long)
      (λ k l. seen_at view ys k (h k) e (omega (arith, t.long)) (from_each 0 m f refl (omega arith) t.each k (omega arith) (omega arith)))
