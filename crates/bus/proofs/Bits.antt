-- The bits of a byte that is sent: the next one stands at the top of what is left.
use Rattle.std.proofs.Common.{◌≡◌, ℕ, zero, suc, ◌*◌, ◌-◌, ◌%◌, ◌<◌, ◌≤◌, eqb, ltb, sym, ◌∙◌, ⊎_elim, arith}
use Rattle.std.proofs.lemmas.Bool.{cases_lt, lt-ltb, le-ltb, eq-eqb, ne_eqb}
use Rattle.bus.specs.Frames.{bit_at}

-- what is left of n after some bits
abbrev pub left : ℕ → ℕ → ℕ
left n zero = n
left n (suc i) = left n i * 2 % 256

is_top : (x y : ℕ) → (127 < x → y ≡ 1) → (x ≤ 127 → y ≡ 1 → ⊥) → ltb 127 x ≡ eqb y 1
is_top x y high low =
    ⊎_elim
    (λ (h : 127 < x). lt-ltb 127 x h ∙ sym (eq-eqb y 1 (high h)))
    (λ (h : x ≤ 127). le-ltb 127 x h ∙ sym (ne_eqb y 1 (low h)))
    (cases_lt 127 x)

pub next_bit : (n i : ℕ) → n < 256 → i < 8 → ltb 127 (left n i) ≡ bit_at n (7 - i)
next_bit n zero h k = is_top _ _ (λ t. omega arith) (λ t e. omega arith)
next_bit n (suc zero) h k = is_top _ _ (λ t. omega arith) (λ t e. omega arith)
next_bit n (suc (suc zero)) h k = is_top _ _ (λ t. omega arith) (λ t e. omega arith)
next_bit n (suc (suc (suc zero))) h k = is_top _ _ (λ t. omega arith) (λ t e. omega arith)
next_bit n (suc (suc (suc (suc zero)))) h k = is_top _ _ (λ t. omega arith) (λ t e. omega arith)
next_bit n (suc (suc (suc (suc (suc zero))))) h k = is_top _ _ (λ t. omega arith) (λ t e. omega arith)
next_bit n (suc (suc (suc (suc (suc (suc zero)))))) h k = is_top _ _ (λ t. omega arith) (λ t e. omega arith)
next_bit n (suc (suc (suc (suc (suc (suc (suc zero))))))) h k = is_top _ _ (λ t. omega arith) (λ t e. omega arith)
next_bit n (suc (suc (suc (suc (suc (suc (suc (suc i)))))))) h k = absurd (omega arith)
