-- What the steps of a reader promise, put together for each kind of line.
use Rattle.std.proofs.Common.{◌≡◌, ℕ, ◌+◌, ◌≤◌, true, List, [], ◌∷◌, ◌++◌, length, get_or, take, drop, IsErrAnd, Some, Ok, Err, Result, sym, refl, ap, ◌∙◌, subst, append-nil, arith, length-append, length-drop, take-append-drop, length-take-le, MatchResult}
use Rattle.std.specs.Prelude.{take_while}
use Rattle.std.specs.List.{prefix_len}
use Rattle.std.proofs.lemmas.List.{drop_all}
use Rattle.std.proofs.lemmas.Bool.{cond-true, cond-false, eqb-true, ne_eqb}
use Rattle.std.proofs.lemmas.List.Folds.{length-prefix_len}
use Rattle.script.specs.declared.class.Class.{Class}
use Rattle.script.specs.declared.class.Class.TheVariants.{Space, Hex}
use Rattle.script.specs.declared.class.Class.TheVariants as class
use Rattle.script.specs.declared.kind.Kind.{Kind}
use Rattle.script.specs.declared.kind.Kind.TheVariants.{Bit, Number, Byte}
use Rattle.script.specs.declared.line.Field.{Field}
use Rattle.script.specs.declared.rest.Rest.{Rest}
use Rattle.script.specs.Grammar.{admits, Part, one, number, Digits, Spells, Matches}
use Rattle.script.specs.Steps.{run, wrong_at, wrong_in, class_of, least_of, most_of, parts, Passed, Counted, Fails, Paired, Single, Taken, Missed, Alone, Both}
use Rattle.script.proofs.Columns.{run_facts}
use Rattle.script.proofs.Runs.{taken_is_run}

-- a `?` hands its column on
pub handed_on : {T : Type 0} (P : T → Type 0) (Q : ℕ → Type 0) (e : ℕ) (r : Result T ℕ) → IsErrAnd r (λ y. y ≡ e) → Q e → MatchResult r P Q
handed_on P Q e (Ok x) by q = absurd by
handed_on P Q e (Err y) by q = subst Q (sym by) q

pub fails_at : {p : Part} {r : Rest} {c : ℕ} → Fails p r c → (ps : List Part) → wrong_in (p ∷ ps) r ≡ Some c
fails_at f ps = f.fails ps ∙ ap Some (sym f.column)

pub passed_on : {c : Class} {r r' : Rest} → Passed c r r' → (ps : List Part) → wrong_in (one c ∷ ps) r ≡ wrong_in ps r'
passed_on {c} {r} {r'} p ps = ap (wrong_at (one c ∷ ps) r.column) p.cut ∙ cond-true _ _ _ p.first ∙ ap (λ m. wrong_at ps m r'.bytes.now) (sym p.moved)

pub counted_on : {r : Rest} {f : Field} {r' : Rest} → Counted r f r' → (ps : List Part) → wrong_in (number ∷ ps) r ≡ wrong_in ps r'
counted_on {r} n ps = cond-false _ _ _ (ne_eqb (run 4 r.bytes.now) 0 (λ z. omega (arith, n.some))) ∙ (λ i. wrong_at ps (sym n.moved i) (sym n.cut i))

pub space_cut : {r r' : Rest} → Passed Space r r' → r.bytes.now ≡ 32 ∷ r'.bytes.now
space_cut {r} {r'} p = p.cut ∙ ap (λ b. b ∷ r'.bytes.now) (eqb-true _ 32 p.first)

pub counted_cut : {r : Rest} {f : Field} {r' : Rest} → Counted r f r' → r.bytes.now ≡ f.text.now ++ r'.bytes.now
counted_cut {r} n = sym (take-append-drop (run 4 r.bytes.now) r.bytes.now) ∙ (λ i. sym n.front i ++ sym n.cut i)

pub counted_length : {r : Rest} {f : Field} {r' : Rest} → Counted r f r' → length f.text.now ≡ run 4 r.bytes.now
counted_length {r} n = ap length n.front ∙ length-take-le (run 4 r.bytes.now) r.bytes.now (run_facts 4 r.bytes.now).1

pub counted_spells : {r : Rest} {f : Field} {r' : Rest} → Counted r f r' → Spells number f.text.now
counted_spells {r} n =
    let long = counted_length n in
    (omega (arith, n.some, long), omega (arith, long, (run_facts 4 r.bytes.now).0), subst Digits (sym n.front) (run_facts 4 r.bytes.now).2)

pub no_more : (bs : List ℕ) → length bs ≡ 0 → bs ≡ []
no_more bs e = drop_all 0 bs (omega arith)

one_byte : (c : Class) (b : ℕ) → admits c b ≡ true → Matches (one c ∷ []) (b ∷ [])
one_byte c b h = (b ∷ [], [], refl, (b, refl, h), refl)

-- what every field that was read is
abbrev pub Read : Kind → Rest → Field → Rest → Type 0
Read kind r f r' = (r.bytes.now ≡ f.text.now ++ r'.bytes.now) × Matches (parts kind) f.text.now × (f.column ≡ r.column) × (r'.column ≡ r.column + length f.text.now)

pub single_is :
    {c : Class} {r : Rest} {f : Field} {r' : Rest} →
    Single c r f r' → (r.bytes.now ≡ f.text.now ++ r'.bytes.now) × Matches (one c ∷ []) f.text.now × (f.column ≡ r.column) × (r'.column ≡ r.column + length f.text.now)
single_is {c} {r} {f} {r'} s =
    let first = get_or r.bytes.now 0 0 in
    let is : f.text.now ≡ first ∷ [] = s.front ∙ ap (take 1) s.passed.cut in
    (s.passed.cut ∙ ap (λ l. l ++ r'.bytes.now) (sym is), subst (Matches (one c ∷ [])) (sym is) (one_byte c first s.passed.first), s.placed, omega (arith, s.passed.moved, ap length is))

counted_is : {r : Rest} {f : Field} {r' : Rest} → Counted r f r' → Read Number r f r'
counted_is {f = f} n = (counted_cut n, (f.text.now, [], sym (append-nil f.text.now), counted_spells n, refl), n.placed, omega (arith, n.moved, counted_length n))

paired_is : {r : Rest} {f : Field} {r' : Rest} → Paired r f r' → Read Byte r f r'
paired_is {f = f} {r' = r'} p = (p.cut, p.spelled, p.placed, omega (arith, p.moved, p.left, ap length p.cut, length-append f.text.now r'.bytes.now))

pub taken_is : (kind : Kind) (r : Rest) (f : Field) (r' : Rest) → Taken kind r f r' → Read kind r f r'
taken_is Bit r f r' s = single_is s.reads
taken_is Number r f r' s = counted_is s.reads
taken_is Byte r f r' s = paired_is s.reads

taken_goes : (kind : Kind) (r : Rest) (f : Field) (r' : Rest) → Taken kind r f r' → (ps : List Part) → wrong_in (parts kind ++ ps) r ≡ wrong_in ps r'
taken_goes Bit r f r' s ps = passed_on s.reads.passed ps
taken_goes Number r f r' s ps = counted_on s.reads ps
taken_goes Byte r f r' s ps = s.reads.on ps

pub taken_on : {kind : Kind} {r : Rest} {f : Field} {r' : Rest} → Taken kind r f r' → (ps : List Part) → wrong_in (parts kind ++ ps) r ≡ wrong_in ps r'
taken_on s ps = taken_goes _ _ _ _ s ps

missed_fails : (kind : Kind) (r : Rest) (c : ℕ) → Missed kind r c → (ps : List Part) → wrong_in (parts kind ++ ps) r ≡ Some c
missed_fails Bit r c s ps = fails_at s.misses ps
missed_fails Number r c s ps = fails_at s.misses ps
missed_fails Byte r c s ps = s.misses.fails ps

pub missed_at : {kind : Kind} {r : Rest} {c : ℕ} → Missed kind r c → (ps : List Part) → wrong_in (parts kind ++ ps) r ≡ Some c
missed_at s ps = missed_fails _ _ _ s ps

-- where nothing is wanted after it
pub missed_last : {kind : Kind} {r : Rest} {c : ℕ} → Missed kind r c → wrong_in (parts kind) r ≡ Some c
missed_last {kind} {r} s = ap (λ ps. wrong_in ps r) (sym (append-nil (parts kind))) ∙ missed_at s []

pub one_whole : {kind : Kind} {r r₁ : Rest} {f : Field} {r₂ : Rest} → Passed Space r r₁ → Taken kind r₁ f r₂ → length r₂.bytes.now ≡ 0 → Alone kind r f
one_whole {f = f} {r₂ = r₂} a m done =
    let t = taken_is _ _ _ _ m in
    record {
      whole = space_cut a ∙ ap (λ l. 32 ∷ l) (t.0 ∙ ap (λ l. f.text.now ++ l) (no_more r₂.bytes.now done) ∙ append-nil f.text.now);
      spelled = t.1;
      placed = t.2 ∙ a.moved;
    }

pub two_whole :
    {kind : Kind} {r r₁ : Rest} {f : Field} {r₂ r₃ : Rest} {g : Field} {r₄ : Rest} →
    Passed Space r r₁ → Taken kind r₁ f r₂ → Passed Space r₂ r₃ → Taken kind r₃ g r₄ → length r₄.bytes.now ≡ 0 → Both kind r f g
two_whole {f = f} a m b n done =
    let first = taken_is _ _ _ _ m in
    let second = one_whole b n done in
    record {
      whole = space_cut a ∙ ap (λ l. 32 ∷ l) (first.0 ∙ ap (λ l. f.text.now ++ l) second.whole);
      first = first.1;
      second = second.spelled;
      placed₁ = first.2 ∙ a.moved;
      placed₂ = omega (arith, second.placed, first.3, a.moved);
    }

-- ---- the bytes of the class that stand first make the field, if they are enough

one_first : (c : Class) (n : ℕ) (bs : List ℕ) → n ≡ length (take_while (admits c) (take 1 bs)) → 1 ≤ n → (n ≡ 1) × (admits c (get_or bs 0 0) ≡ true) × (bs ≡ get_or bs 0 0 ∷ drop n bs)
one_first c n [] is enough = absurd (omega arith)
one_first c n (b ∷ bs) is enough = grind arith

both_first : (c : Class) (n x y : ℕ) → n ≡ prefix_len (admits c) (x ∷ y ∷ []) → 2 ≤ n → (n ≡ 2) × (admits c x ≡ true) × (admits c y ≡ true)
both_first c n x y is two = grind arith

two_first :
    (c : Class) (n : ℕ) (bs : List ℕ) →
    n ≡ length (take_while (admits c) (take 2 bs)) → 2 ≤ n → (n ≡ 2) × (admits c (get_or bs 0 0) ≡ true) × (admits c (get_or bs 1 0) ≡ true) × (bs ≡ get_or bs 0 0 ∷ get_or bs 1 0 ∷ drop n bs)
two_first c n [] is enough = absurd (omega arith)
two_first c n (x ∷ []) is enough = grind arith
two_first c n (x ∷ y ∷ bs) is enough =
    let both = both_first c n x y (is ∙ length-prefix_len (admits c) (x ∷ y ∷ [])) enough in
    (both.0, both.1, both.2, ap (λ m. x ∷ y ∷ drop m (x ∷ y ∷ bs)) (sym both.0))

paired : {r : Rest} {f : Field} {r' : Rest} (x y : ℕ) → admits Hex x ≡ true → admits Hex y ≡ true → r.bytes.now ≡ x ∷ y ∷ r'.bytes.now → f.text.now ≡ take 2 r.bytes.now → f.column ≡ r.column → r'.column ≡ r.column + 2 → Paired r f r'
paired {r} {f} {r'} x y hx hy whole front placed moved =
    let text_is : f.text.now ≡ x ∷ y ∷ [] = front ∙ ap (take 2) whole in
    let next : r.column + 1 + 1 ≡ r'.column = omega arith in
    record {
      spelled = subst (Matches (one Hex ∷ one Hex ∷ [])) (sym text_is) (x ∷ [], y ∷ [], refl, (x, refl, hx), one_byte Hex y hy);
      cut = whole ∙ ap (λ l. l ++ r'.bytes.now) (sym text_is);
      placed = placed;
      moved = moved;
      left = omega (arith, ap length whole);
      on = λ ps. ap (wrong_at (one Hex ∷ one Hex ∷ ps) r.column) whole ∙ cond-true _ _ _ hx ∙ cond-true _ _ _ hy ∙ ap (λ m. wrong_at ps m r'.bytes.now) next;
    }

pub field_taken :
    (kind : Kind) (n : ℕ) (r : Rest) (f : Field) (r' : Rest) →
    n ≡ length (take_while (admits (class_of kind)) (take (most_of kind) r.bytes.now)) → least_of kind ≤ n → f.text.now ≡ take n r.bytes.now → r'.bytes.now ≡ drop n r.bytes.now → f.column ≡ r.column → r'.column ≡ r.column + n → Taken kind r f r'
field_taken Bit n r f r' is enough front cut placed moved =
    let one = one_first class.Bit n r.bytes.now is enough in
    let whole : r.bytes.now ≡ get_or r.bytes.now 0 0 ∷ r'.bytes.now = one.2 ∙ ap (λ l. get_or r.bytes.now 0 0 ∷ l) (sym cut) in
    record { reads = record { passed = record { first = one.1; cut = whole; moved = omega (arith, one.0); left = omega (arith, ap length whole) }; front = front ∙ ap (λ m. take m r.bytes.now) one.0; placed = placed } }
field_taken Number n r f r' is enough front cut placed moved =
    let many : n ≡ run 4 r.bytes.now = is ∙ taken_is_run 4 r.bytes.now in
    let short = run_facts 4 r.bytes.now in
    record { reads = grind (arith, length-drop) }
field_taken Byte n r f r' is enough front cut placed moved =
    let two = two_first Hex n r.bytes.now is enough in
    let whole : r.bytes.now ≡ get_or r.bytes.now 0 0 ∷ get_or r.bytes.now 1 0 ∷ r'.bytes.now = two.3 ∙ ap (λ l. get_or r.bytes.now 0 0 ∷ get_or r.bytes.now 1 0 ∷ l) (sym cut) in
    record { reads = paired (get_or r.bytes.now 0 0) (get_or r.bytes.now 1 0) two.1 two.2 whole (front ∙ ap (λ m. take m r.bytes.now) two.0) placed (omega (arith, two.0)) }
