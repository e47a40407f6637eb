-- The bits of a byte, joined again.
use Rattle.std.proofs.Common.{◌≡◌, ℕ, zero, suc, ◌+◌, ◌-◌, ◌*◌, ◌/◌, ◌%◌, ◌<◌, Bool, eqb, refl, ap, ◌∙◌, arith}
use Rattle.bus.specs.Frames.{bit_at}
use Rattle.wire.specs.Receive.{bit}

abbrev pub shift_in : ℕ → Bool → ℕ
shift_in m b = m % 128 * 2 + bit b

-- the first i bits of n
abbrev pub front : ℕ → ℕ → ℕ
front n zero = 0
front n (suc i) = shift_in (front n i) (bit_at n (7 - i))

bit_is : (x : ℕ) → x < 2 → bit (eqb x 1) ≡ x
bit_is zero h = refl
bit_is (suc zero) h = refl
bit_is (suc (suc x)) h = absurd (omega arith)

one_more : (n m : ℕ) → m ≡ n / 2 → n < 256 → shift_in m (eqb (n % 2) 1) ≡ n
one_more n m e h = let f : bit (eqb (n % 2) 1) ≡ n % 2 = bit_is (n % 2) (omega arith) in omega (arith, f)

pub front_all : (n : ℕ) → n < 256 → front n 8 ≡ n
front_all n h =
    let e1 : front n 1 ≡ n / 128 = one_more (n / 128) 0 (omega arith) (omega arith) in
    let e2 : front n 2 ≡ n / 64 = one_more (n / 64) (front n 1) (omega (arith, e1)) (omega arith) in
    let e3 : front n 3 ≡ n / 32 = one_more (n / 32) (front n 2) (omega (arith, e2)) (omega arith) in
    let e4 : front n 4 ≡ n / 16 = one_more (n / 16) (front n 3) (omega (arith, e3)) (omega arith) in
    let e5 : front n 5 ≡ n / 8 = one_more (n / 8) (front n 4) (omega (arith, e4)) (omega arith) in
    let e6 : front n 6 ≡ n / 4 = one_more (n / 4) (front n 5) (omega (arith, e5)) (omega arith) in
    let e7 : front n 7 ≡ n / 2 = one_more (n / 2) (front n 6) (omega (arith, e6)) (omega arith) in
    ap (λ (x : ℕ). shift_in (front n 7) (eqb (x % 2) 1)) (omega arith) ∙ one_more n (front n 7) e7 h
