-- A store pushes the oldest out, and a run of stores leaves the last fifty.
use Rattle.std.proofs.Common.{◌≡◌, ℕ, ◌+◌, ◌-◌, ◌<◌, ◌≤◌, ltb, List, [], ◌∷◌, ◌++◌, map, length, get_or, take, drop, set, replicate, sym, refl, ap, ◌∙◌, ⊎_elim, append_assoc, add-one, arith}
use Rattle.std.proofs.lemmas.List.{append-nil, length_push, length-append, map_push, drop-map, drop-set-lt, take_more_set, drop_more, drop_all, set_split, at_drop_more, at_drop_all}
use Rattle.std.proofs.lemmas.Bool.{cases_lt, lt-ltb, le-ltb, cond-true, cond-false}
use Rattle.samples.specs.Places.{following}
use Rattle.samples.specs.History.{turned, pushed, last_fifty}

-- a write over the oldest, and the next place for the oldest, within the list and at its end
pushed_on : {X : Type 0} (xs : List X) (o next : ℕ) (x : X) → o < length xs → next ≡ o + 1 → turned (set xs o x) next ≡ pushed (turned xs o) x
pushed_on xs o next x h is =
    let on : o < o + 1 = omega arith in
    let a = drop-set-lt (o + 1) xs o x on in
    let b = take_more_set xs o x h in
    let e = drop_more xs o x h in
    rw (is, a, b, e) (sym (append_assoc (drop (o + 1) xs) (take o xs) (x ∷ [])))

pushed_round : {X : Type 0} (xs : List X) (o next : ℕ) (x : X) → o + 1 ≡ length xs → next ≡ 0 → turned (set xs o x) next ≡ pushed (turned xs o) x
pushed_round xs o next x h is =
    let lt : o < length xs = omega arith in
    let past : length xs ≤ o + 1 = omega arith in
    let gone : drop (o + 1) xs ≡ [] = drop_all (o + 1) xs past in
    let e = drop_more xs o x lt in
    let s = set_split xs o x lt in
    rw (is, append-nil, s, e, ← add-one o, gone)

pushed_over : {X : Type 0} (xs : List X) (o next : ℕ) (x : X) → o < length xs → next ≡ following o (length xs) → turned (set xs o x) next ≡ pushed (turned xs o) x
pushed_over xs o next x h is =
    ⊎_elim
    (λ (on : o + 1 < length xs). pushed_on xs o next x h (is ∙ cond-true (ltb (o + 1) (length xs)) (o + 1) 0 (lt-ltb (o + 1) (length xs) on)))
    (λ (end : length xs ≤ o + 1). pushed_round xs o next x (omega arith) (is ∙ cond-false (ltb (o + 1) (length xs)) (o + 1) 0 (le-ltb (o + 1) (length xs) end)))
    (cases_lt (o + 1) (length xs))

map_pushed : {X Y : Type 0} (f : X → Y) (xs : List X) (x : X) → map f (pushed xs x) ≡ pushed (map f xs) (f x)
map_pushed f xs x = map_push f (drop 1 xs) x ∙ ap (λ l. l ++ (f x ∷ [])) (sym (drop-map f 1 xs))

pub stores : {X Y : Type 0} (f : X → Y) (xs : List X) (o next n : ℕ) (x : X) → length xs ≡ n → o < n → next ≡ following o n → map f (turned (set xs o x) next) ≡ pushed (map f (turned xs o)) (f x)
stores f xs o next n x len h is =
    let inside : o < length xs = omega arith in
    let on : next ≡ following o (length xs) = is ∙ ap (following o) (sym len) in
    ap (map f) (pushed_over xs o next x inside on) ∙ map_pushed f (turned xs o) x

-- a run of stores
abbrev pub pushes : List ℕ → List ℕ → List ℕ
pushes c [] = c
pushes c (x ∷ xs) = pushes (pushed c x) xs

pushes_drop : (c xs : List ℕ) → 0 < length c → pushes c xs ≡ drop (length xs) (c ++ xs)
pushes_drop c [] h = rw append-nil
pushes_drop [] (x ∷ xs) h = absurd (let no : ⊥ = omega arith in no)
pushes_drop (y ∷ ys) (x ∷ xs) h =
    let more : 0 < length (ys ++ (x ∷ [])) = omega (arith, length_push ys x) in
    pushes_drop (ys ++ (x ∷ [])) xs more ∙ ap (drop (length xs)) (append_assoc ys (x ∷ []) xs)

pub pushes_last : (c xs : List ℕ) → length c ≡ 50 → pushes c xs ≡ last_fifty (c ++ xs)
pushes_last c xs n =
    let some : 0 < length c = omega arith in
    let all : length xs ≡ length (c ++ xs) - 50 = omega (arith, length-append c xs) in
    pushes_drop c xs some ∙ ap (λ k. drop k (c ++ xs)) all

-- one turn of a loop that stores each element, and its end
pub pushes_more : {X : Type 0} (f : X → ℕ) (c d : List ℕ) (xs : List X) (i : ℕ) (x : X) → i < length xs → x ≡ get_or xs i x → d ≡ pushed c (f x)
    → pushes d (map f (drop (i + 1) xs)) ≡ pushes c (map f (drop i xs))
pushes_more f c d xs i x h is e =
    let s : pushes c (map f (drop i xs)) ≡ pushes (pushed c (f (get_or xs i x))) (map f (drop (i + 1) xs)) = at_drop_more (λ ys. pushes c (map f ys)) xs i x h in
    let t : get_or xs i x ≡ x = sym is in
    rw (s, t, e)

pub pushes_all : {X : Type 0} (f : X → ℕ) (c : List ℕ) (xs : List X) (i : ℕ) → length xs ≤ i → pushes c (map f (drop i xs)) ≡ pushes (replicate 50 0) (map f xs)
    → c ≡ last_fifty (replicate 50 0 ++ map f xs)
pushes_all f c xs i h inv =
    let s : pushes c (map f (drop i xs)) ≡ c = at_drop_all (λ ys. pushes c (map f ys)) xs i h in
    sym s ∙ inv ∙ pushes_last (replicate 50 0) (map f xs) refl
