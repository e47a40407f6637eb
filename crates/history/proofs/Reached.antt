-- The part that a history reaches is the one that its events lead to, and the debt is what the calls have left of it.
use Rattle.std.proofs.Common.{◌≡◌, ℕ, ◌+◌, ◌-◌, Bool, true, false, cond, ◌&&◌, eqb, leb, List, [], ◌∷◌, ◌++◌, refl, ap, ◌∙◌, arith}
use Rattle.std.proofs.lemmas.Bool.Decides.{nat_tests}
use Rattle.registers.specs.declared.pins.Pins.{Pins}
use Rattle.registers.specs.Pins.{address_of}
use Rattle.part.specs.declared.events.Pin.TheVariants.{On, Pol}
use Rattle.part.specs.Model.{Model, powered, address}
use Rattle.part.specs.Events as part
use Rattle.rig.specs.Meaning.{Meaning, Call, tick, pin, trip, outputs, put, get, block, reaches, accepts, does, next, sized, ring_base}
use Rattle.rig.proofs.Bus.{accepted_is}
use Rattle.part.specs.Runs.{after}
use Rattle.history.specs.Histories.{since, heard, accepted, event_of, happened}

-- ---- straps and PROT never change

pub record Fixed (m q : Model) : Type 0 where
  pub a1 : m.pins.a1 ≡ q.pins.a1
  pub a0 : m.pins.a0 ≡ q.pins.a0
  pub prot : m.pins.prot ≡ q.pins.prot

step_fixed : (m : Model) (e : part.Event) → Fixed (part.step m e) m
unfolding part.step
step_fixed m (part.tick i v) = record { a1 = refl; a0 = refl; prot = refl }
step_fixed m (part.pin On l) = record { a1 = refl; a0 = refl; prot = refl }
step_fixed m (part.pin Pol l) = record { a1 = refl; a0 = refl; prot = refl }
step_fixed m (part.trip t) = record { a1 = refl; a0 = refl; prot = refl }
step_fixed m (part.write n byte) = record { a1 = refl; a0 = refl; prot = refl }
step_fixed m (part.block s) = record { a1 = refl; a0 = refl; prot = refl }

pub after_fixed : (p : Pins) (es : List part.Event) → Fixed (after p es) (powered p)
after_fixed p [] = record { a1 = refl; a0 = refl; prot = refl }
after_fixed p (e ∷ es) =
    let s = step_fixed (after p es) e in
    let f = after_fixed p es in
    record { a1 = s.a1 ∙ f.a1; a0 = s.a0 ∙ f.a0; prot = s.prot ∙ f.prot }

pub after_address : (p : Pins) (es : List part.Event) → address (after p es) ≡ address (powered p)
after_address p es =
    let f = after_fixed p es in
    ap (λ x. address_of x (after p es).pins.a0) f.a1 ∙ ap (address_of p.a1) f.a0

-- whom a call reaches is a matter of the address
reaches_at : (m q : Model) → address m ≡ address q → (c : Call) → reaches m c ≡ reaches q c
reaches_at m q e (tick i v) = refl
reaches_at m q e (pin w l) = refl
reaches_at m q e (trip t) = refl
reaches_at m q e outputs = refl
reaches_at m q e (put a r x) = ap (λ k. leb r 0x45 && eqb a k) e
reaches_at m q e (get a r) = ap (λ k. leb r 0x45 && eqb a k) e
reaches_at m q e (block a base n) = ap (λ k. (sized n && ring_base base) && eqb a k) e

-- ---- one call more

used_up : (n k : ℕ) → eqb (n - k) 0 ≡ leb n k
used_up n k = grind (arith, nat_tests)

pub record Reached (p : Pins) (n : ℕ) (cs : List Call) (m : Meaning) : Type 0 where
  pub part_is : m.part ≡ after p (happened p n cs)
  pub owed_is : m.owed ≡ n - heard p cs

part_more : (t : Bool) (c : Call) (p : Pins) (es : List part.Event) → cond t (does (after p es) c) (after p es) ≡ after p (cond t (event_of c) [] ++ es)
part_more true (tick i v) p es = refl
part_more true (pin w l) p es = refl
part_more true (trip t) p es = refl
part_more true outputs p es = refl
part_more true (put a r x) p es = refl
part_more true (get a r) p es = refl
part_more true (block a base n) p es = refl
part_more false c p es = refl

owed_more : (t : Bool) (n k : ℕ) → cond t (n - k - 1) (n - k) ≡ n - cond t (k + 1) k
owed_more true n k = omega arith
owed_more false n k = refl

module _ (p : Pins) (n : ℕ) (cs : List Call) (m : Meaning) (r : Reached p n cs m) where
  reaches_is : (c : Call) → reaches m.part c ≡ reaches (powered p) c
  reaches_is c = ap (λ x. reaches x c) r.part_is ∙ reaches_at (after p (happened p n cs)) (powered p) (after_address p (happened p n cs)) c

  bus_is : (c : Call) → (reaches m.part c && eqb m.owed 0) ≡ (reaches (powered p) c && leb n (heard p cs))
  bus_is c = ap (λ x. x && eqb m.owed 0) (reaches_is c) ∙ ap (λ x. reaches (powered p) c && eqb x 0) r.owed_is ∙ ap (λ x. reaches (powered p) c && x) (used_up n (heard p cs))

  accepts_is : (c : Call) → accepts m c ≡ accepted p n c cs
  accepts_is (tick i v) = refl
  accepts_is (pin w l) = refl
  accepts_is (trip t) = refl
  accepts_is outputs = refl
  accepts_is (put a k x) = accepted_is m (put a k x) refl ∙ bus_is (put a k x)
  accepts_is (get a k) = accepted_is m (get a k) refl ∙ bus_is (get a k)
  accepts_is (block a base k) = accepted_is m (block a base k) refl ∙ bus_is (block a base k)

  reached_more : (c : Call) → Reached p n (c ∷ cs) (next m c)
  reached_more c = record {
    part_is =
        ap (λ t. cond t (does m.part c) m.part) (accepts_is c)
        ∙ ap (λ x. cond (accepted p n c cs) (does x c) x) r.part_is
        ∙ part_more (accepted p n c cs) c p (happened p n cs);
    owed_is =
        ap (λ t. cond t (m.owed - 1) m.owed) (reaches_is c)
        ∙ ap (λ o. cond (reaches (powered p) c) (o - 1) o) r.owed_is
        ∙ owed_more (reaches (powered p) c) n (heard p cs);
  }

pub reaches_all : (p : Pins) (n : ℕ) (cs : List Call) → Reached p n cs (since record { part = powered p; owed = n } cs)
reaches_all p n [] = record { part_is = refl; owed_is = omega arith }
reaches_all p n (c ∷ cs) = reached_more p n cs (since record { part = powered p; owed = n } cs) (reaches_all p n cs) c
