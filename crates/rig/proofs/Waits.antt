-- A call on the bus that is tried again: what the tries come to, for the rig above.
use Rattle.std.proofs.Common.{◌≡◌, ℕ, zero, suc, ◌+◌, ◌-◌, ◌/◌, ◌<◌, ◌≤◌, true, false, cond, ◌&&◌, eqb, List, Ok, Err, Result, sym, refl, ap, subst, ◌∙◌, ⊎_elim, div-one, add-one, arith}
use native.Mathlib.Nat.{div-eq_of_lt, div-eq-sub-div}
use Rattle.std.proofs.lemmas.Bool.{both_ways, cases_Bool, cases_eq, eqb-true, ne_eqb, and_parts}
use Rattle.rig.specs.declared.Refusal.{Refusal}
use Rattle.rig.specs.declared.Refusal.TheVariants.{Sample, Length, Register, Silence}
use Rattle.std.specs.Borrow.{MutBor}
use Rattle.rig.specs.Refusals.{told, is_silence, silent}
use Rattle.rig.specs.Meaning.{Meaning, Call, Answer, refused, answer, accepts, reaches, does, next}
use Rattle.rig.specs.Patience.{eased, again, Waits}
use Rattle.rig.specs.Tries.{on_bus, Made, Makes}
use Rattle.rig.proofs.Bus.{good, bad, accepted_is, answered_is, silent_is, good_speaks}

-- the rig after i tries of the call that all met silence, from m
pub record Waited (m : Meaning) (c : Call) (i : ℕ) (now : Meaning) : Type 0 where
  pub part : now.part ≡ m.part
  pub here : reaches m.part c ≡ true → now.owed + i ≡ m.owed
  pub away : reaches m.part c ≡ false → now.owed ≡ m.owed

pub waited_none : (m : Meaning) (c : Call) → Waited m c 0 m
waited_none m c = record { part = refl; here = λ _. omega arith; away = λ _. refl }

-- one bus call, by what it reaches
pub record One (m : Meaning) (c : Call) : Type 0 where
  pub takes : accepts m c ≡ (reaches m.part c && eqb m.owed 0)
  pub says : answer m c ≡ cond (reaches m.part c && eqb m.owed 0) (good m.part c) (bad c)
  pub speaks : good m.part c ≡ refused Silence → ⊥
  pub mute : reaches m.part c ≡ true → bad c ≡ refused Silence

pub one : (m : Meaning) (c : Call) → on_bus c ≡ true → One m c
one m c b = record { takes = accepted_is m c b; says = answered_is m c b; speaks = good_speaks m.part c b; mute = λ e. (silent_is m.part c e).1 }

share_none : (n p : ℕ) → n < p + 1 → n / (p + 1) ≡ 0
share_none n p h = div-eq_of_lt h

share_one : (n p : ℕ) → p + 1 ≤ n → n / (p + 1) ≡ (n - (p + 1)) / (p + 1) + 1
share_one n p h = div-eq-sub-div (omega arith) h

module _ (m : Meaning) (c : Call) (b : on_bus c ≡ true) where
  reaches_same : (n : Meaning) → n.part ≡ m.part → reaches n.part c ≡ reaches m.part c
  reaches_same n e = ap (λ p. reaches p c) e

  -- silence is no acceptance, and it means a debt where the call reaches the part
  unaccepted : (n : Meaning) → answer n c ≡ refused Silence → (reaches n.part c && eqb n.owed 0) ≡ false
  unaccepted n s =
      ⊎_elim
      (λ (t : (reaches n.part c && eqb n.owed 0) ≡ true). absurd ((one n c b).speaks (sym ((one n c b).says ∙ ap (λ x. cond x (good n.part c) (bad c)) t) ∙ s)))
      (λ t. t)
      (cases_Bool (reaches n.part c && eqb n.owed 0))

  -- an answer other than silence to a call that reaches the part means that nothing is owed
  accepted : (n : Meaning) → (answer n c ≡ refused Silence → ⊥) → reaches n.part c ≡ true → n.owed ≡ 0
  accepted n s r =
      ⊎_elim
      (λ (t : (reaches n.part c && eqb n.owed 0) ≡ true). eqb-true n.owed 0 (and_parts (reaches n.part c) (eqb n.owed 0) t).1)
      (λ (t : (reaches n.part c && eqb n.owed 0) ≡ false). absurd (s ((one n c b).says ∙ ap (λ x. cond x (good n.part c) (bad c)) t ∙ (one n c b).mute r)))
      (cases_Bool (reaches n.part c && eqb n.owed 0))

  pub waited_more : (i : ℕ) (n : Meaning) → Waited m c i n → answer n c ≡ refused Silence → Waited m c (i + 1) (next n c)
  waited_more i n w s =
      let same = reaches_same n w.part in
      let no = unaccepted n s in
      let refused_it : accepts n c ≡ false = (one n c b).takes ∙ no in
      record {
        part = ap (λ x. cond x (does n.part c) n.part) refused_it ∙ w.part;
        here = λ r.
            let at : reaches n.part c ≡ true = same ∙ r in
            let owes : n.owed ≡ 0 → ⊥ = λ z. both_ways (reaches n.part c && eqb n.owed 0) no (rw (at, z)) in
            let before = w.here r in
            rw at (omega arith);
        away = λ r. let at : reaches n.part c ≡ false = same ∙ r in rw at (w.away r);
      }

  -- two rigs of one part that owe alike, or where the call reaches neither, take and answer the call alike
  alike : (n q : Meaning) → n.part ≡ q.part → (reaches q.part c ≡ true → eqb n.owed 0 ≡ eqb q.owed 0) → (accepts n c ≡ accepts q c) × (answer n c ≡ answer q c)
  alike n q e z =
      let tests : (reaches n.part c && eqb n.owed 0) ≡ (reaches q.part c && eqb q.owed 0) =
      ap (λ p. reaches p c && eqb n.owed 0) e
      ∙ ⊎_elim
      (λ (t : reaches q.part c ≡ true). ap (λ y. reaches q.part c && y) (z t))
      (λ (t : reaches q.part c ≡ false). ap (λ y. y && eqb n.owed 0) t ∙ sym (ap (λ y. y && eqb q.owed 0) t))
      (cases_Bool (reaches q.part c)) in (
        (one n c b).takes ∙ tests ∙ sym (one q c b).takes,
        (one n c b).says ∙ ap (λ p. cond (reaches n.part c && eqb n.owed 0) (good p c) (bad c)) e ∙ ap (λ x. cond x (good q.part c) (bad c)) tests ∙ sym (one q c b).says,
      )

  -- what the layer above sees: the part, the debt shared out, whether the call is taken and what it answers
  pub record Seen (n : Meaning) (p : ℕ) : Type 0 where
    pub after : eased (next n c) p ≡ next (eased m p) c
    pub taken : accepts n c ≡ accepts (eased m p) c
    pub answered : answer n c ≡ answer (eased m p) c

  seen : (n : Meaning) (p : ℕ) → n.part ≡ m.part → (reaches m.part c ≡ true → eqb n.owed 0 ≡ eqb (m.owed / (p + 1)) 0)
      → cond (reaches n.part c) (n.owed - 1) n.owed / (p + 1) ≡ cond (reaches m.part c) (m.owed / (p + 1) - 1) (m.owed / (p + 1)) → Seen n p
  seen n p e z debt =
      let both = alike n (eased m p) e z in
      record {
        after = let parts : (next n c).part ≡ (next (eased m p) c).part = ap (λ x. cond x (does n.part c) n.part) both.0 ∙ ap (λ q. cond (accepts (eased m p) c) (does q c) q) e in cc;
        taken = both.0;
        answered = both.1;
      }

  -- a try that was answered
  pub waited_done : (i p : ℕ) (n : Meaning) → i ≤ p → Waited m c i n → (answer n c ≡ refused Silence → ⊥) → Seen n p
  waited_done i p n h w s =
      let same = reaches_same n w.part in
      let z : 0 / (p + 1) ≡ 0 = share_none 0 p (omega arith) in
      ⊎_elim
      (λ (r : reaches m.part c ≡ true).
      let none : n.owed ≡ 0 = accepted n s (same ∙ r) in
      let few : m.owed / (p + 1) ≡ 0 = share_none m.owed p (let before = w.here r in omega arith) in
      seen n p w.part (λ _. rw (none, few)) (rw (same, r, none, few) z))
      (λ (r : reaches m.part c ≡ false).
      seen n p w.part (λ t. absurd (both_ways (reaches m.part c) r t)) (rw (same, r, w.away r)))
      (cases_Bool (reaches m.part c))

  -- the last try, whatever it gave
  pub waited_all : (p : ℕ) (n : Meaning) → Waited m c p n → Seen n p
  waited_all p n w =
      let same = reaches_same n w.part in
      let z : 0 / (p + 1) ≡ 0 = share_none 0 p (omega arith) in
      ⊎_elim
      (λ (r : reaches m.part c ≡ true).
      let before = w.here r in
      ⊎_elim
      (λ (none : n.owed ≡ 0).
      let few : m.owed / (p + 1) ≡ 0 = share_none m.owed p (omega arith) in
      seen n p w.part (λ _. rw (none, few)) (rw (same, r, none, few) z))
      (λ (owes : n.owed ≡ 0 → ⊥).
      let many = share_one m.owed p (omega arith) in
      let left : n.owed - 1 ≡ m.owed - (p + 1) = omega arith in
      seen n p w.part (λ _. rw (ne_eqb n.owed 0 owes) (sym (ne_eqb (m.owed / (p + 1)) 0 (omega arith)))) (rw (same, r, left) (omega arith)))
      (cases_eq n.owed 0))
      (λ (r : reaches m.part c ≡ false).
      seen n p w.part (λ t. absurd (both_ways (reaches m.part c) r t)) (rw (same, r, w.away r)))
      (cases_Bool (reaches m.part c))

-- the same call again and again
module _ (m : Meaning) (c : Call) (r : reaches m.part c ≡ true) where
  owing_silent : (n : Meaning) → n.part ≡ m.part → (n.owed ≡ 0 → ⊥) → answer n c ≡ refused Silence
  owing_silent n e owes =
      let b = (silent_is m.part c r).0 in
      let at : reaches n.part c ≡ true = ap (λ p. reaches p c) e ∙ r in
      (one n c b).says ∙ rw (at, ne_eqb n.owed 0 owes) ((one n c b).mute at)

  waiting : (k : ℕ) → k ≤ m.owed → Waited m c k (again m c k)
  waiting zero h = waited_none m c
  waiting (suc k) h =
      let w = waiting k (omega arith) in
      let before = w.here r in
      let more = waited_more m c (silent_is m.part c r).0 k (again m c k) w (owing_silent (again m c k) w.part (λ z. let no : ⊥ = omega arith in no)) in
      rw add-one at more

  waits_then : ((k : ℕ) → k < m.owed → answer (again m c k) c ≡ refused Silence) × (accepts (again m c m.owed) c ≡ true)
  waits_then =
      let b = (silent_is m.part c r).0 in
      let w = waiting m.owed (omega arith) in
      let none : (again m c m.owed).owed ≡ 0 = let before = w.here r in omega arith in
      let at : reaches (again m c m.owed).part c ≡ true = ap (λ p. reaches p c) w.part ∙ r in (
        λ k h. let v = waiting k (omega arith) in let before = v.here r in owing_silent (again m c k) v.part (λ z. let no : ⊥ = omega arith in no),
        (one (again m c m.owed) c b).takes ∙ rw (at, none),
      )

pub waits : (m : Meaning) → Waits m m.owed
waits m c r = waits_then m c r

-- dividing by one
pub eased_none : (m : Meaning) (p : ℕ) → p ≡ 0 → eased m p ≡ m
eased_none m p e = ap (λ q. record { part = m.part; owed = m.owed / (q + 1) }) e ∙ ap (λ n. record { part = m.part; owed = n }) (div-one m.owed)

-- a result is silence exactly where its answer is
silence_told : (e : Refusal) → is_silence e ≡ true → refused e ≡ refused Silence
silence_told (Sample s) t = absurd (both_ways false refl t)
silence_told Length t = absurd (both_ways false refl t)
silence_told Register t = absurd (both_ways false refl t)
silence_told Silence t = refl

silence_only : (e : Refusal) → is_silence e ≡ false → refused e ≡ refused Silence → ⊥
silence_only e t s = let same : e ≡ Silence = cc in both_ways (is_silence e) t (ap is_silence same)

met : {X : Type 0} (good_answer : X → Answer) (r : Result X Refusal) → silent r ≡ true → told good_answer r ≡ refused Silence
met good_answer (Ok x) t = absurd (both_ways false refl t)
met good_answer (Err e) t = silence_told e t

unmet : {X : Type 0} (good_answer : X → Answer) (r : Result X Refusal) → ((x : X) → good_answer x ≡ refused Silence → ⊥) → silent r ≡ false → told good_answer r ≡ refused Silence → ⊥
unmet good_answer (Ok x) speaks t s = speaks x s
unmet good_answer (Err e) speaks t s = silence_only e t s

-- the rig and the buffer after i tries that all met silence
pub record Kept (m : Meaning) (c : Call) (i : ℕ) (before : List ℕ) (now : Meaning) (out : List ℕ) : Type 0 where
  pub buffer : out ≡ before
  pub waited : Waited m c i now

-- one more run of a closure that makes the call
module _ {R X : Type 0} (meaning : R → Meaning) (runs : MutBor R → MutBor (List ℕ) → Result X Refusal → MutBor R → MutBor (List ℕ) → Type 0)
    (m : Meaning) (before : List ℕ) (c : Call) (good_answer : X → List ℕ → Answer) (does_it : Makes meaning runs before c good_answer)
    (i : ℕ) (r s : MutBor R) (b d : MutBor (List ℕ)) (o : Result X Refusal)
    (k : Kept m c i before (meaning r.now) b.now) (ran : runs r b o s d) where
  made : Made c good_answer (meaning r.now) b.now o (meaning s.now) d.now
  made = does_it.makes r s b d o k.buffer ran

  -- it met silence
  pub tried : silent o ≡ true → Kept m c (i + 1) before (meaning s.now) d.now
  tried t =
      let mute : answer (meaning r.now) c ≡ refused Silence = sym made.answers ∙ met (λ x. good_answer x d.now) o t in
      record {
        buffer = made.kept ((one (meaning r.now) c does_it.bus).takes ∙ unaccepted m c does_it.bus (meaning r.now) mute) ∙ k.buffer;
        waited = subst (Waited m c (i + 1)) (sym made.leaves) (waited_more m c does_it.bus i (meaning r.now) k.waited mute);
      }

  -- it is the last, and the rig above sees it as a call of its own
  last : (p : ℕ) → Seen m c does_it.bus (meaning r.now) p → Made c good_answer (eased m p) before o (eased (meaning s.now) p) d.now
  last p e = record {
    answers = made.answers ∙ e.answered;
    leaves = ap (λ n. eased n p) made.leaves ∙ e.after;
    kept = λ t. made.kept (e.taken ∙ t) ∙ k.buffer;
  }

  pub tried_done : (p : ℕ) → i ≤ p → silent o ≡ false → Made c good_answer (eased m p) before o (eased (meaning s.now) p) d.now
  tried_done p h t =
      last p (waited_done m c does_it.bus i p (meaning r.now) h k.waited (λ z. unmet (λ x. good_answer x d.now) o (λ x. does_it.speaks x d.now) t (made.answers ∙ z)))

  pub tried_all : (p : ℕ) → i ≡ p → Made c good_answer (eased m p) before o (eased (meaning s.now) p) d.now
  tried_all p e = last p (waited_all m c does_it.bus p (meaning r.now) (rw e at k.waited))
