-- A get and a block of a reading, by whether the part listens.
use Rattle.std.proofs.Common.{◌≡◌, ℕ, ◌-◌, ◌<◌, Bool, true, false, cond, ◌&&◌, eqb, leb, sym, refl, ap, ◌∙◌, ⊎_elim, arith}
use Rattle.std.proofs.lemmas.Bool.{cases_Bool, le-leb, eqb-true, and_parts}
use Rattle.part.specs.Model.{address}
use Rattle.part.specs.Shown.{shown}
use Rattle.rig.specs.declared.Refusal.{Refusal}
use Rattle.rig.specs.declared.Refusal.TheVariants.{Register, Silence}
use Rattle.rig.specs.Meaning.{Meaning, get, byte, refused, hears, bus_answer, answer, accepts, next}
use Rattle.rig.proofs.Bus.{same_meaning}

pub either_same : {X : Type 0} (t : Bool) (x : X) → cond t x x ≡ x
either_same true x = refl
either_same false x = refl

pub nothing_owed : (m : Meaning) (a : ℕ) → hears m a ≡ true → m.owed ≡ 0
nothing_owed m a h = eqb-true m.owed 0 (and_parts (eqb a (address m.part)) (eqb m.owed 0) h).1

pub at_address : (m : Meaning) (a : ℕ) → hears m a ≡ true → a ≡ address m.part
at_address m a h = eqb-true a (address m.part) (and_parts (eqb a (address m.part)) (eqb m.owed 0) h).0

module _ (m : Meaning) (a k : ℕ) (low : k < 70) where
  there : leb k 0x45 ≡ true
  there = le-leb k 0x45 (omega arith)

  get_answer : (h : Bool) → hears m a ≡ h → answer m (get a k) ≡ cond h (byte (shown m.part k)) (refused Silence)
  get_answer h t =
      ap (λ y. cond y (bus_answer m a (byte (shown m.part k))) (refused Register)) there
      ∙ ap (λ y. cond y (byte (shown m.part k)) (refused Silence)) t

  -- a register that was read
  pub get_done : (b : ℕ) → byte b ≡ answer m (get a k) → (hears m a ≡ true) × (b ≡ shown m.part k)
  get_done b is =
      ⊎_elim
      (λ (t : hears m a ≡ true). (t, let e : byte b ≡ byte (shown m.part k) = is ∙ get_answer true t in cc))
      (λ (t : hears m a ≡ false). absurd (let e : byte b ≡ refused Silence = is ∙ get_answer false t in let z : ◌≡◌ {A = ℕ} 0 1 = cc in omega arith))
      (cases_Bool (hears m a))

  -- one that was refused
  pub get_refused : (e : Refusal) → refused e ≡ answer m (get a k) → (hears m a ≡ false) × (e ≡ Silence)
  get_refused e is =
      ⊎_elim
      (λ (t : hears m a ≡ true). absurd (let no : refused e ≡ byte (shown m.part k) = is ∙ get_answer true t in let z : ◌≡◌ {A = ℕ} 0 1 = cc in omega arith))
      (λ (t : hears m a ≡ false). (t, let same : refused e ≡ refused Silence = is ∙ get_answer false t in cc))
      (cases_Bool (hears m a))

  pub part_kept : (next m (get a k)).part ≡ m.part
  part_kept = either_same (accepts m (get a k)) m.part

  owed_then : (next m (get a k)).owed ≡ cond (eqb a (address m.part)) (m.owed - 1) m.owed
  owed_then = ap (λ y. cond (y && eqb a (address m.part)) (m.owed - 1) m.owed) there

  -- a get that is answered changes nothing
  pub get_kept : hears m a ≡ true → next m (get a k) ≡ m
  get_kept h =
      let none = nothing_owed m a h in
      let less : m.owed - 1 ≡ m.owed = omega arith in
      same_meaning (next m (get a k)) m part_kept (owed_then ∙ ap (λ o. cond (eqb a (address m.part)) o m.owed) less ∙ either_same (eqb a (address m.part)) m.owed)

-- what a get leaves is the same for every register
pub get_same : (m : Meaning) (a k : ℕ) → k < 70 → next m (get a k) ≡ next m (get a 0)
get_same m a k low =
    let zero : 0 < 70 = omega arith in
    same_meaning (next m (get a k)) (next m (get a 0)) (part_kept m a k low ∙ sym (part_kept m a 0 zero)) (owed_then m a k low ∙ sym (owed_then m a 0 zero))
