-- Places of a ring, and a list read from one of its places on.
use Rattle.std.proofs.Common.{◌≡◌, ℕ, ◌+◌, ◌-◌, ◌%◌, ◌<◌, ◌≤◌, ltb, List, map, length, get_or, take, drop, sym, refl, ap, ◌∙◌, ⊎_elim, mod-lt, mod-eq_of_lt, arith, lit<}
use native.Mathlib.Nat.{add-mod, mod-eq-sub-mod}
use Rattle.std.proofs.lemmas.List.{length-map, length-drop, length-take, length-append, get_or-map, get_or_append_left, get_or-append_right, get_or-drop, get_or-take}
use Rattle.std.proofs.lemmas.Bool.{cases_lt, lt-ltb, le-ltb, cond-true, cond-false}
use Rattle.samples.specs.Places.{following}
use Rattle.samples.specs.History.{turned}

-- k steps on from p, short of the end and round it
pub on_within : (p k n : ℕ) → p % n + k % n < n → p % n + k % n ≡ (p + k) % n
on_within p k n h = sym (add-mod p k n ∙ mod-eq_of_lt h)

pub on_round : (p k n : ℕ) → 0 < n → n ≤ p % n + k % n → k % n - (n - p % n) ≡ (p + k) % n
on_round p k n pos h =
    let a = mod-lt p pos in
    let b = mod-lt k pos in
    let less : p % n + k % n - n < n = omega arith in
    let back : k % n - (n - p % n) ≡ p % n + k % n - n = omega arith in
    back ∙ sym (add-mod p k n ∙ mod-eq-sub-mod h ∙ mod-eq_of_lt less)

pub length_turned : {X : Type 0} (xs : List X) (o : ℕ) → length (turned xs o) ≡ length xs
length_turned xs o = simp (length-append, length-drop, length-take) (omega arith)

-- place j of a list of fifty read from place o on is place o + j of the list, round its end
pub getD_turned : {X : Type 0} (xs : List X) (o j i : ℕ) (d : X) → length xs ≡ 50 → o < 50 → j < 50 → i ≡ (o + j) % 50 → get_or (turned xs o) j d ≡ get_or xs i d
getD_turned xs o j i d n ho hj is =
    let len : length (drop o xs) ≡ 50 - o = length-drop o xs ∙ ap (λ m. m - o) n in
    ⊎_elim
    (λ (low : o + j < 50).
    let inside : j < length (drop o xs) = omega arith in
    let e : o + j ≡ i = omega arith in
    get_or_append_left (drop o xs) (take o xs) d j inside ∙ get_or-drop o xs j d ∙ ap (λ m. get_or xs m d) e)
    (λ (high : 50 ≤ o + j).
    let past : 50 - o ≤ j = omega arith in
    let e : j - (50 - o) ≡ i = omega arith in
    let inside : j - (50 - o) < o = omega arith in
    get_or-append_right (drop o xs) (take o xs) (50 - o) j d len past ∙ get_or-take o xs (j - (50 - o)) d inside ∙ ap (λ m. get_or xs m d) e)
    (cases_lt (o + j) 50)

-- the same of what each element stands for
pub getD_map_turned : {X : Type 0} (f : X → ℕ) (xs : List X) (o j i : ℕ) (d : X) → length xs ≡ 50 → o < 50 → j < 50 → i ≡ (o + j) % 50 → f (get_or xs i d) ≡ get_or (map f (turned xs o)) j 0
getD_map_turned f xs o j i d n ho hj is =
    let inside : j < length (turned xs o) = omega (arith, length_turned xs o) in
    sym (get_or-map f (turned xs o) j d 0 inside ∙ ap f (getD_turned xs o j i d n ho hj is))

-- the next of fifty places is one step on
following_is : (o : ℕ) → o < 50 → following o 50 ≡ (o + 1) % 50
following_is o h =
    ⊎_elim
    (λ (on : o + 1 < 50). cond-true (ltb (o + 1) 50) (o + 1) 0 (lt-ltb (o + 1) 50 on) ∙ omega arith)
    (λ (end : 50 ≤ o + 1). cond-false (ltb (o + 1) 50) (o + 1) 0 (le-ltb (o + 1) 50 end) ∙ omega arith)
    (cases_lt (o + 1) 50)

-- element k of a readout, which begins at the place after the oldest
pub getD_readout : {X : Type 0} (f : X → ℕ) (xs : List X) (o first k i : ℕ) (d : X) → length xs ≡ 50 → o < 50 → first ≡ following o 50 → i ≡ (first + k) % 50 → f (get_or xs i d) ≡ get_or (turned (map f (turned xs o)) 1) (k % 50) 0
getD_readout f xs o first k i d n ho is at =
    let step : first ≡ (o + 1) % 50 = is ∙ following_is o ho in
    let some : k % 50 < 50 = omega arith in
    let len : length (map f (turned xs o)) ≡ 50 = length-map (turned xs o) f ∙ length_turned xs o ∙ n in
    let inside : (1 + k % 50) % 50 < 50 = omega arith in
    let place : i ≡ (o + (1 + k % 50) % 50) % 50 = omega arith in
    getD_map_turned f xs o ((1 + k % 50) % 50) i d n ho inside place ∙ sym (getD_turned (map f (turned xs o)) 1 (k % 50) ((1 + k % 50) % 50) 0 len (lit< tt) some refl)
