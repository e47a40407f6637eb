-- The first line of a script: where it goes wrong.
use Rattle.std.proofs.Common.{◌≡◌, ◌≢◌, ℕ, zero, suc, ◌+◌, ◌-◌, ◌*◌, ◌<◌, ◌≤◌, true, false, cond, ◌&&◌, eqb, leb, ◌⊎◌, List, [], ◌∷◌, ◌++◌, length, get_or, take, drop, Some, None, Option, sym, refl, ap, ◌∙◌, subst, inl, inr, ⊎_elim, append-nil, add-one, arith, length-append, take-append-drop, length-take-le}
use Rattle.std.proofs.lemmas.Int.Digits.{digits_value_more}
use Rattle.std.proofs.lemmas.List.{take_all}
use Rattle.std.proofs.lemmas.Bool.{both_ways, cases_Bool, and_parts, and_from, cond-true, cond-false, leb-true, leb-false, ne_eqb}
use Rattle.std.specs.Str.Parse.{digits_value, digits_value_after}
use Rattle.std.specs.Char.{digit_value}
use Rattle.script.specs.declared.class.Class.TheVariants.{Digit}
use Rattle.script.specs.Grammar.{admits, number, Digits, Spells, FirstRight, FirstWrong}
use Rattle.script.proofs.Fronts.{Halts, halts_cons, halts_same, halts_first, first_wrong}
use Rattle.script.proofs.Values.{digit_is}

-- a text that says a hold-off
abbrev pub Says : List ℕ → Type 0
Says t = Spells number t × (digits_value 10 t ≤ 255)

-- the first i bytes are digits, and say 255 at most
pub record Begun (t : List ℕ) (i n : ℕ) : Type 0 where
  pub few : i ≤ 4
  pub inside : i ≤ length t
  pub digits : Digits (take i t)
  pub is : n ≡ digits_value 10 (take i t)
  pub small : n ≤ 255

-- why no more than i bytes begin a hold-off: the next is no digit, there are four, or the number gets too large
abbrev pub Blocked : List ℕ → ℕ → Type 0
Blocked t i = (admits Digit (get_or t i 0) ≡ false) ⊎ ((4 ≤ i) ⊎ (255 < digits_value 10 (take (i + 1) t)))

grows : (n : ℕ) (t : List ℕ) → n ≤ digits_value_after 10 n t
grows n [] = omega arith
grows n (b ∷ t) = omega (arith, grows (n * 10 + digit_value b) t)

after_front : (n : ℕ) (t more : List ℕ) → digits_value_after 10 n t ≤ digits_value_after 10 n (t ++ more)
after_front n [] more = grows n more
after_front n (b ∷ t) more = after_front (n * 10 + digit_value b) t more

-- a longer text says no less
front_less : (k i : ℕ) (t : List ℕ) (n : ℕ) → k ≤ i → digits_value_after 10 n (take k t) ≤ digits_value_after 10 n (take i t)
front_less zero i t n h = grows n (take i t)
front_less (suc k) zero t n h = absurd (omega arith)
front_less (suc k) (suc i) [] n h = omega arith
front_less (suc k) (suc i) (b ∷ t) n h = front_less k i t (n * 10 + digit_value b) (omega arith)

front_digits : (k i : ℕ) (t : List ℕ) → k ≤ i → Digits (take i t) → Digits (take k t)
front_digits zero i t h d = tt
front_digits (suc k) zero t h d = absurd (omega arith)
front_digits (suc k) (suc i) [] h d = tt
front_digits (suc k) (suc i) (b ∷ t) h d = (d.0, front_digits k i t (omega arith) d.1)

more_digits : (i : ℕ) (t : List ℕ) → i < length t → Digits (take i t) → admits Digit (get_or t i 0) ≡ true → Digits (take (suc i) t)
more_digits i [] h d e = absurd (omega arith)
more_digits zero (b ∷ t) h d e = (e, tt)
more_digits (suc i) (b ∷ t) h d e = (d.0, more_digits i t (omega arith) d.1 e)

-- a digit among digits
digit_of : (i : ℕ) (t more : List ℕ) → i < length t → Digits (take (suc i) t ++ more) → admits Digit (get_or t i 0) ≡ true
digit_of i [] more h d = absurd (omega arith)
digit_of zero (b ∷ t) more h d = d.0
digit_of (suc i) (b ∷ t) more h d = digit_of i t more (omega arith) d.1

begins : (t : List ℕ) (i n : ℕ) → Begun t i n → (k : ℕ) → k ≤ i → (more : List ℕ) × Says (take k t ++ more)
begins t i n b zero h = (48 ∷ [], ((omega arith, omega arith, (refl, tt)), omega arith))
begins t i n b (suc k) h =
    let long : length (take (suc k) t) ≡ suc k = length-take-le (suc k) t (omega (arith, b.inside)) in
    let said : Says (take (suc k) t) = ((omega (arith, long), omega (arith, long, b.few), front_digits (suc k) i t h b.digits), omega (arith, front_less (suc k) i t 0 h, b.is, b.small)) in
    ([], subst Says (sym (append-nil (take (suc k) t))) said)

blocked : (t : List ℕ) (i : ℕ) → i < length t → Blocked t i → (more : List ℕ) → Says (take (suc i) t ++ more) → ⊥
blocked t i h why more s =
    ⊎_elim (λ none. both_ways _ none (digit_of i t more h s.0.2))
    (λ o. ⊎_elim (λ four. omega (arith, s.0.1, length-append (take (suc i) t) more, length-take-le (suc i) t (omega arith)))
    (λ large. let same : i + 1 ≡ suc i = omega arith in omega (arith, ap (λ k. digits_value 10 (take k t)) same, after_front 0 (take (suc i) t) more, s.1)) o) why

-- the text goes wrong after i bytes
halts_text : (t : List ℕ) (i n : ℕ) → Begun t i n → i < length t → Blocked t i → Halts Says t i
halts_text t i n b h why =
    record {
      within = omega arith;
      before = begins t i n b;
      here = λ _. blocked t i h why;
      short = λ s. blocked t i h why (drop (suc i) t) (subst Says (sym (take-append-drop (suc i) t)) s);
    }

halts_empty : Halts Says [] 0
halts_empty =
    record { within = omega arith; before = λ k h. begins [] 0 0 none k h; here = λ h. absurd (omega arith); short = λ s. omega (arith, s.0.0) }
  where
    none : Begun [] 0 0
    none = record { few = omega arith; inside = omega arith; digits = tt; is = refl; small = omega arith }

-- a right line by its text, and back
lined : (t : List ℕ) → Says t → FirstRight (66 ∷ 32 ∷ t)
lined t s = record { digits = t; whole = refl; spelled = s.0; small = s.1 }

text_of : (t : List ℕ) → FirstRight (66 ∷ 32 ∷ t) → Says t
text_of t r = subst Says (sym (ap (drop 2) r.whole)) (r.spelled, r.small)

halts_after : (t : List ℕ) (i : ℕ) → Halts Says t i → Halts FirstRight (66 ∷ 32 ∷ t) (suc (suc i))
halts_after t i s = halts_cons 66 (halts_cons 32 (halts_same lined (λ y _ r. text_of y r) s))

sample : Says (48 ∷ [])
sample = ((omega arith, omega arith, (refl, tt)), omega arith)

pub wrong_letter : (line : List ℕ) → get_or line 0 0 ≢ 66 → FirstWrong FirstRight line 1
wrong_letter line other =
    first_wrong (halts_first (λ b. eqb b 66) (66 ∷ 32 ∷ 48 ∷ []) (lined (48 ∷ []) sample) (λ y r. ap (λ l. eqb (get_or l 0 0) 66) r.whole) line (ne_eqb _ 66 other)) refl

pub wrong_space : (line : List ℕ) → get_or line 0 0 ≡ 66 → get_or line 1 0 ≢ 32 → FirstWrong FirstRight line 2
wrong_space [] letter other = absurd (omega (arith, letter))
wrong_space (x ∷ t) letter other =
    subst (λ b. FirstWrong FirstRight (b ∷ t) 2) (sym letter)
    (first_wrong (halts_cons 66 (halts_first (λ b. eqb b 32) (32 ∷ 48 ∷ []) (lined (48 ∷ []) sample) (λ y r. ap (λ l. eqb (get_or l 1 0) 32) r.whole) t (ne_eqb _ 32 other))) refl)

pub wrong_short : (t : List ℕ) → length t ≡ 0 → FirstWrong FirstRight (66 ∷ 32 ∷ t) 3
wrong_short [] none = first_wrong (halts_after [] 0 halts_empty) refl
wrong_short (b ∷ t) none = absurd (omega arith)

pub wrong_digit : (t : List ℕ) (i n k : ℕ) → Begun t i n → i < length t → Blocked t i → k ≡ i + 3 → FirstWrong FirstRight (66 ∷ 32 ∷ t) k
wrong_digit t i n k b h why column = first_wrong (halts_after t i (halts_text t i n b h why)) (omega arith)

pub all_read : (t : List ℕ) (i n : ℕ) → 1 ≤ length t → Begun t i n → length t ≤ i → FirstRight (66 ∷ 32 ∷ t) × (n ≡ digits_value 10 t)
all_read t i n some b h =
    let all : take i t ≡ t = take_all i t h in
    let is : n ≡ digits_value 10 t = b.is ∙ ap (digits_value 10) all in
    (record { digits = t; whole = refl; spelled = (some, omega (arith, b.few, b.inside), subst Digits all b.digits); small = omega (arith, b.small, is) }, is)

-- the number with one digit more
abbrev pub longer : ℕ → ℕ → Option ℕ
longer n b = cond (admits Digit b && leb (n * 10 + (b - 48)) 255) (Some (n * 10 + (b - 48))) None

pub begun_more : (t : List ℕ) (i n more : ℕ) → Begun t i n → i < 4 → i < length t → longer n (get_or t i 0) ≡ Some more → Begun t (i + 1) more
begun_more t i n more b few inside e =
    let byte = get_or t i 0 in
    ⊎_elim
    (λ yes.
    let parts = and_parts (admits Digit byte) (leb (n * 10 + (byte - 48)) 255) yes in
    let same : Some (n * 10 + (byte - 48)) ≡ Some more = sym (cond-true _ _ _ yes) ∙ e in
    let is : n * 10 + (byte - 48) ≡ more = cc in
    let step : digits_value 10 (take (i + 1) t) ≡ n * 10 + (byte - 48) = omega (arith, digits_value_more 10 t i inside, (digit_is byte parts.0).2, b.is) in
    record { few = omega arith; inside = omega arith; digits = rw add-one (more_digits i t inside b.digits parts.0); is = sym is ∙ sym step; small = omega (arith, leb-true _ _ parts.1, is) })
    (λ no. let clash : None ≡ Some more = sym (cond-false _ _ _ no) ∙ e in let z : ◌≡◌ {A = ℕ} 0 1 = cc in absurd (omega arith))
    (cases_Bool (admits Digit byte && leb (n * 10 + (byte - 48)) 255))

pub blocked_here : (t : List ℕ) (i n : ℕ) → Begun t i n → i < length t → longer n (get_or t i 0) ≡ None → Blocked t i
blocked_here t i n b inside e =
    let byte = get_or t i 0 in
    ⊎_elim
    (λ yes. let clash : Some (n * 10 + (byte - 48)) ≡ None = sym (cond-true _ _ _ yes) ∙ e in let z : ◌≡◌ {A = ℕ} 0 1 = cc in absurd (omega arith))
    (λ no.
    ⊎_elim
    (λ digit.
    ⊎_elim (λ small. absurd (both_ways _ no (and_from _ _ digit small)))
    (λ large. inr (inr (omega (arith, digits_value_more 10 t i inside, (digit_is byte digit).2, b.is, leb-false _ _ large))))
    (cases_Bool (leb (n * 10 + (byte - 48)) 255)))
    (λ none. inl none)
    (cases_Bool (admits Digit byte)))
    (cases_Bool (admits Digit byte && leb (n * 10 + (byte - 48)) 255))
