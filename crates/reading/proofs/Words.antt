-- Samples as bytes: sixteen bits each, the high byte first.
use Rattle.std.proofs.Common.{◌≡◌, ℕ, zero, suc, ◌+◌, ◌*◌, ◌/◌, ◌%◌, ◌<◌, ◌≤◌, List, [], ◌∷◌, ◌++◌, length, get_or, drop, sym, refl, ap, ◌∙◌, append_assoc, append-nil, arith}
use Rattle.std.specs.Int.{w16, to_be_bytes}
use Rattle.std.specs.List.{flat_map}
use Rattle.std.proofs.lemmas.List.Concat.{flat_map-cons}
use borrow.Rule.Slice.PartMut.{put_mid, post_of}
use Rattle.std.proofs.lemmas.List.{take_at, drop_at, drop_all, length-append, length-drop}
use Rattle.reading.specs.Report.{words}

pub length_words : (xs : List ℕ) → length (words xs) ≡ length xs * 2
length_words [] = refl
length_words (x ∷ xs) = let r = length_words xs in omega arith

-- the two bytes of each sample
pub high_word : (xs : List ℕ) (k : ℕ) → k < length xs → get_or (words xs) (2 * k) 0 ≡ get_or xs k 0 / 256
high_word [] k h = absurd (omega arith)
high_word (x ∷ xs) zero h = refl
high_word (x ∷ xs) (suc k) h = ap (λ j. get_or (words (x ∷ xs)) j 0) (two_on k) ∙ high_word xs k (omega arith)
  where
    two_on : (k : ℕ) → 2 * suc k ≡ suc (suc (2 * k))
    two_on k = omega arith

pub low_word : (xs : List ℕ) (k : ℕ) → k < length xs → get_or (words xs) (2 * k + 1) 0 ≡ get_or xs k 0 % 256
low_word [] k h = absurd (omega arith)
low_word (x ∷ xs) zero h = refl
low_word (x ∷ xs) (suc k) h = ap (λ j. get_or (words (x ∷ xs)) j 0) (two_on k) ∙ low_word xs k (omega arith)
  where
    two_on : (k : ℕ) → 2 * suc k + 1 ≡ suc (suc (2 * k + 1))
    two_on k = omega arith

-- the bytes of one sample after the other
pub flattened : (xs : List ℕ) (ys : List (List ℕ)) → length ys ≡ length xs → ((i : ℕ) → i < length xs → get_or xs i 0 < 65536) → ((i : ℕ) → i < length xs → get_or ys i [] ≡ to_be_bytes w16 (get_or xs i 0)) → flat_map (λ y. y) ys ≡ words xs
flattened [] [] n fits at = refl
flattened [] (y ∷ ys) n fits at = absurd (omega (arith, n))
flattened (x ∷ xs) [] n fits at = absurd (omega (arith, n))
flattened (x ∷ xs) (y ∷ ys) n fits at =
    let first : y ≡ x / 256 ∷ x % 256 ∷ [] = at 0 (omega arith) ∙ two_bytes x (fits 0 (omega arith)) in
    let rest = flattened xs ys (omega (arith, n)) (λ i l. fits (suc i) (omega (arith, l))) (λ i l. at (suc i) (omega (arith, l))) in
    flat_map-cons (λ z. z) y ys ∙ ap (λ l. l ++ flat_map (λ z. z) ys) first ∙ ap (λ l. x / 256 ∷ x % 256 ∷ l) rest
  where
    two_bytes : (x : ℕ) → x < 65536 → to_be_bytes w16 x ≡ x / 256 ∷ x % 256 ∷ []
    two_bytes x fits = let high : x / 256 % 256 ≡ x / 256 = omega arith in ap (λ h. h ∷ x % 256 ∷ []) high

-- three parts written one after the other into a buffer of their joint length
pub three_parts : (xs a b c x y z : List ℕ) → length xs ≡ 270 → length x ≡ 70 → length y ≡ 100 → length z ≡ 100 → a ≡ x → b ≡ y → c ≡ z
    → put_mid 170 100 (put_mid 70 100 (a ++ post_of 0 70 xs) b) c ≡ x ++ (y ++ z)
three_parts xs a b c x y z n lx ly lz ea eb ec =
    let la : length a ≡ 70 = ap length ea ∙ lx in
    let lb : length b ≡ 100 = ap length eb ∙ ly in
    let first : put_mid 70 100 (a ++ post_of 0 70 xs) b ≡ (a ++ b) ++ drop 100 (post_of 0 70 xs) =
    ap (λ t. t ++ (b ++ post_of 70 100 (a ++ post_of 0 70 xs))) (take_at a (post_of 0 70 xs) 70 la)
    ∙ ap (λ t. a ++ (b ++ drop 100 t)) (drop_at a (post_of 0 70 xs) 70 la)
    ∙ sym (append_assoc a b (drop 100 (post_of 0 70 xs))) in
    let both : length (a ++ b) ≡ 170 = length-append a b ∙ omega arith in
    let long : length (drop 100 (post_of 0 70 xs)) ≤ 100 = simp (length-drop, length-drop) (omega arith) in
    ap (λ t. put_mid 170 100 t c) first
    ∙ ap (λ t. t ++ (c ++ post_of 170 100 ((a ++ b) ++ drop 100 (post_of 0 70 xs)))) (take_at (a ++ b) (drop 100 (post_of 0 70 xs)) 170 both)
    ∙ ap (λ t. (a ++ b) ++ (c ++ drop 100 t)) (drop_at (a ++ b) (drop 100 (post_of 0 70 xs)) 170 both)
    ∙ ap (λ t. (a ++ b) ++ (c ++ t)) (drop_all 100 (drop 100 (post_of 0 70 xs)) long)
    ∙ ap (λ t. (a ++ b) ++ t) (append-nil c)
    ∙ append_assoc a b c
    ∙ ap (λ t. t ++ (b ++ c)) ea
    ∙ ap (λ t. x ++ (t ++ c)) eb
    ∙ ap (λ t. x ++ (y ++ t)) ec
