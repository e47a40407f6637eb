-- Bytes in hexadecimal, one after the other.
use Rattle.std.proofs.Common.{◌≡◌, ℕ, ◌+◌, ◌*◌, ◌/◌, ◌%◌, ◌<◌, ◌≤◌, List, [], ◌∷◌, ◌++◌, length, get_or, take, sym, refl, ap, ◌∙◌, arith, codes, length-append, length-take-le}
use Rattle.std.proofs.lemmas.List.{take_more}
use Rattle.answers.specs.Text.{hex_digit, hex_text, report_text}

hex_append : (xs ys : List ℕ) → hex_text (xs ++ ys) ≡ hex_text xs ++ hex_text ys
hex_append [] ys = refl
hex_append (x ∷ xs) ys = ap (λ l. hex_digit (x / 16) ∷ hex_digit (x % 16) ∷ l) (hex_append xs ys)

pub length_hex : (xs : List ℕ) → length (hex_text xs) ≡ 2 * length xs
length_hex [] = refl
length_hex (x ∷ xs) = omega (arith, length_hex xs)

-- the digits of one more byte
pub hex_more : (bytes : List ℕ) (i : ℕ) → i < length bytes → hex_text (take i bytes) ++ hex_text (get_or bytes i 0 ∷ []) ≡ hex_text (take (i + 1) bytes)
hex_more bytes i inside = sym (hex_append (take i bytes) (get_or bytes i 0 ∷ [])) ∙ sym (ap hex_text (take_more bytes i 0 inside))

pub length_hex_taken : (bytes : List ℕ) (i : ℕ) → i ≤ length bytes → length (hex_text (take i bytes)) ≡ 2 * i
length_hex_taken bytes i inside = length_hex (take i bytes) ∙ ap (λ k. 2 * k) (length-take-le i bytes inside)

-- a report as an answer: two digits for each byte, and a line feed
pub length_report : (bytes : List ℕ) → length (report_text bytes) ≡ 2 * length bytes + 1
length_report bytes = omega (arith, length-append (hex_text bytes) (codes "\n"), length_hex bytes)
