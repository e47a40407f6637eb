-- Calls on the bus: put, get and block.
use Rattle.std.proofs.Common.{◌≡◌, ℕ, ◌-◌, Bool, true, false, cond, ◌&&◌, eqb, leb, List, length, Ok, Err, Result, sym, refl, ap, ◌∙◌, ⊎_elim, arith}
use Rattle.std.proofs.Math.Bool.{and_assoc}
use Rattle.std.proofs.lemmas.Bool.{both_ways, cases_Bool, and_from}
use Rattle.part.specs.Model.{Model, address}
use Rattle.part.specs.Shown.{shown}
use Rattle.rig.specs.declared.Refusal.{Refusal}
use Rattle.rig.specs.declared.Refusal.TheVariants.{Length, Register, Silence}
use Rattle.rig.specs.Meaning.{Meaning, Call, tick, pin, trip, outputs, put, get, block, Answer, done, byte, bytes, refused, sized, ring_base, hears, bus_answer, block_of, answer, accepts, reaches, does, next, filled}
use Rattle.rig.specs.Refusals.{told}
pub use Rattle.rig.specs.Tries.{on_bus}

-- the answer of a call that is accepted, and of one that is not
abbrev pub good : Model → Call → Answer
good p (tick i v) = done
good p (pin w l) = done
good p (trip t) = done
good p outputs = done
good p (put a r x) = done
good p (get a r) = byte (shown p r)
good p (block a base n) = bytes (block_of p base n)

abbrev pub bad : Call → Answer
bad (tick i v) = done
bad (pin w l) = done
bad (trip t) = done
bad outputs = done
bad (put a r x) = cond (leb r 0x45) (refused Silence) (refused Register)
bad (get a r) = cond (leb r 0x45) (refused Silence) (refused Register)
bad (block a base n) = cond (sized n) (cond (ring_base base) (refused Silence) (refused Register)) (refused Length)

one_test : (t h z : Bool) (g s f : Answer) → cond t (cond (h && z) g s) f ≡ cond ((t && h) && z) g (cond t s f)
one_test true h z g s f = refl
one_test false h z g s f = refl

two_tests : (t u h z : Bool) (g s f e : Answer) → cond t (cond u (cond (h && z) g s) f) e ≡ cond (((t && u) && h) && z) g (cond t (cond u s f) e)
two_tests true true h z g s f e = refl
two_tests true false h z g s f e = refl
two_tests false u h z g s f e = refl

-- a bus call is accepted exactly where it reaches the part and nothing is owed
pub accepted_is : (m : Meaning) (c : Call) → on_bus c ≡ true → accepts m c ≡ (reaches m.part c && eqb m.owed 0)
accepted_is m (tick i v) b = absurd (both_ways false refl b)
accepted_is m (pin w l) b = absurd (both_ways false refl b)
accepted_is m (trip t) b = absurd (both_ways false refl b)
accepted_is m outputs b = absurd (both_ways false refl b)
accepted_is m (put a r x) b = sym (and_assoc (leb r 0x45) (eqb a (address m.part)) (eqb m.owed 0))
accepted_is m (get a r) b = sym (and_assoc (leb r 0x45) (eqb a (address m.part)) (eqb m.owed 0))
accepted_is m (block a base n) b = sym (and_assoc (sized n && ring_base base) (eqb a (address m.part)) (eqb m.owed 0))

pub answered_is : (m : Meaning) (c : Call) → on_bus c ≡ true → answer m c ≡ cond (reaches m.part c && eqb m.owed 0) (good m.part c) (bad c)
answered_is m (tick i v) b = absurd (both_ways false refl b)
answered_is m (pin w l) b = absurd (both_ways false refl b)
answered_is m (trip t) b = absurd (both_ways false refl b)
answered_is m outputs b = absurd (both_ways false refl b)
answered_is m (put a r x) b = one_test (leb r 0x45) (eqb a (address m.part)) (eqb m.owed 0) _ _ _
answered_is m (get a r) b = one_test (leb r 0x45) (eqb a (address m.part)) (eqb m.owed 0) _ _ _
answered_is m (block a base n) b = two_tests (sized n) (ring_base base) (eqb a (address m.part)) (eqb m.owed 0) _ _ _ _

reach_parts : (t h : Bool) (s f : Answer) → (t && h) ≡ true → cond t s f ≡ s
reach_parts true h s f e = refl
reach_parts false h s f e = absurd (both_ways false refl e)

reach_two : (t u h : Bool) (s f e : Answer) → ((t && u) && h) ≡ true → cond t (cond u s f) e ≡ s
reach_two true true h s f e r = refl
reach_two true false h s f e r = absurd (both_ways false refl r)
reach_two false u h s f e r = absurd (both_ways false refl r)

-- a call that reaches the part is refused by silence only
pub silent_is : (p : Model) (c : Call) → reaches p c ≡ true → (on_bus c ≡ true) × (bad c ≡ refused Silence)
silent_is p (tick i v) e = absurd (both_ways false refl e)
silent_is p (pin w l) e = absurd (both_ways false refl e)
silent_is p (trip t) e = absurd (both_ways false refl e)
silent_is p outputs e = absurd (both_ways false refl e)
silent_is p (put a r x) e = (refl, reach_parts (leb r 0x45) (eqb a (address p)) _ _ e)
silent_is p (get a r) e = (refl, reach_parts (leb r 0x45) (eqb a (address p)) _ _ e)
silent_is p (block a base n) e = (refl, reach_two (sized n) (ring_base base) (eqb a (address p)) _ _ _ e)

-- no accepted bus call is answered by silence
pub good_speaks : (p : Model) (c : Call) → on_bus c ≡ true → good p c ≡ refused Silence → ⊥
good_speaks p (tick i v) b e = absurd (both_ways false refl b)
good_speaks p (pin w l) b e = absurd (both_ways false refl b)
good_speaks p (trip t) b e = absurd (both_ways false refl b)
good_speaks p outputs b e = absurd (both_ways false refl b)
good_speaks p (put a r x) b e = let z : ◌≡◌ {A = ℕ} 0 1 = cc in omega arith
good_speaks p (get a r) b e = let z : ◌≡◌ {A = ℕ} 0 1 = cc in omega arith
good_speaks p (block a base n) b e = let z : ◌≡◌ {A = ℕ} 0 1 = cc in omega arith

-- two meanings of one part and one debt
pub same_meaning : (m n : Meaning) → m.part ≡ n.part → m.owed ≡ n.owed → m ≡ n
same_meaning m n e f = ap (λ p. record { part = p; owed = m.owed }) e ∙ ap (λ o. record { part = n.part; owed = o }) f

-- a missing acknowledge is silence
pub unheard : (m : Meaning) (a : ℕ) (e : Refusal) → refused e ≡ bus_answer m a done → (hears m a ≡ false) × (e ≡ Silence)
unheard m a e is =
    ⊎_elim
    (λ (t : hears m a ≡ true). absurd (let no : refused e ≡ done = is ∙ ap (λ x. cond x done (refused Silence)) t in let z : ◌≡◌ {A = ℕ} 0 1 = cc in omega arith))
    (λ (t : hears m a ≡ false). (t, let same : refused e ≡ refused Silence = is ∙ ap (λ x. cond x done (refused Silence)) t in cc))
    (cases_Bool (hears m a))

-- and an acknowledge is none
pub heard : (m : Meaning) (a : ℕ) → done ≡ bus_answer m a done → hears m a ≡ true
heard m a e =
    ⊎_elim
    (λ t. t)
    (λ (t : hears m a ≡ false). absurd (let no : done ≡ refused Silence = e ∙ ap (λ x. cond x done (refused Silence)) t in let z : ◌≡◌ {A = ℕ} 0 1 = cc in omega arith))
    (cases_Bool (hears m a))

-- a block past its tests, by whether the part listens
module _ (m n : Meaning) (a base k : ℕ) (fits : sized k ≡ true) (ring : ring_base base ≡ true) (h : Bool) (t : hears m a ≡ h) where
  past : (sized k && ring_base base) ≡ true
  past = and_from (sized k) (ring_base base) fits ring

  pub block_accepted : accepts m (block a base k) ≡ h
  block_accepted = ap (λ y. y && hears m a) past ∙ t

  pub block_answered : answer m (block a base k) ≡ cond h (bytes (block_of m.part base k)) (refused Silence)
  block_answered = ap (λ y. cond y (cond (ring_base base) (bus_answer m a (bytes (block_of m.part base k))) (refused Register)) (refused Length)) fits
      ∙ ap (λ y. cond y (bus_answer m a (bytes (block_of m.part base k))) (refused Register)) ring
      ∙ ap (λ y. cond y (bytes (block_of m.part base k)) (refused Silence)) t

  pub block_left : n.part ≡ cond h (does m.part (block a base k)) m.part → n.owed ≡ cond (eqb a (address m.part)) (m.owed - 1) m.owed → n ≡ next m (block a base k)
  block_left e f =
      same_meaning n (next m (block a base k))
      (e ∙ sym (ap (λ x. cond x (does m.part (block a base k)) m.part) block_accepted))
      (f ∙ sym (ap (λ x. cond (x && eqb a (address m.part)) (m.owed - 1) m.owed) past))

-- a block is answered by what is in the buffer, and a refused one leaves the buffer: so it is filled as the meaning says
bytes_told : (xs ys : List ℕ) (o : Result (Unit {0}) Refusal) → told (λ _. bytes ys) o ≡ bytes xs → ys ≡ xs
bytes_told xs ys (Ok u) e = cc
bytes_told xs ys (Err f) e = let z : ◌≡◌ {A = ℕ} 0 1 = cc in absurd (omega arith)

pub block_filled : (m : Meaning) (a base : ℕ) (before after : List ℕ) (o : Result (Unit {0}) Refusal) → told (λ _. bytes after) o ≡ answer m (block a base (length before))
    → (accepts m (block a base (length before)) ≡ false → after ≡ before) → after ≡ filled m a base before
block_filled m a base before after o answers kept =
    let c = block a base (length before) in
    ⊎_elim
    (λ (t : accepts m c ≡ true).
    let good_answer : answer m c ≡ bytes (block_of m.part base (length before)) = answered_is m c refl ∙ ap (λ x. cond x (good m.part c) (bad c)) (sym (accepted_is m c refl) ∙ t) in
    bytes_told (block_of m.part base (length before)) after o (answers ∙ good_answer) ∙ sym (ap (λ x. cond x (block_of m.part base (length before)) before) t))
    (λ (t : accepts m c ≡ false). kept t ∙ sym (ap (λ x. cond x (block_of m.part base (length before)) before) t))
    (cases_Bool (accepts m c))
