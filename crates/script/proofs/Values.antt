-- The values of texts of digits.
use Rattle.std.proofs.Common.{◌≡◌, ℕ, zero, suc, ◌+◌, ◌-◌, ◌*◌, ◌<◌, ◌≤◌, true, List, [], ◌∷◌, ◌++◌, length, get_or, take, drop, sym, refl, ap, ◌∙◌, arith, drop-drop}
use Rattle.std.proofs.lemmas.Int.Digits.{digits_value_more}
use Rattle.std.proofs.lemmas.List.{take_at, drop_at}
use Rattle.std.proofs.lemmas.Bool.{cond-true}
use Rattle.std.proofs.lemmas.Bool.Decides.{nat_tests}
use Rattle.std.specs.Str.Parse.{digits_value}
use Rattle.std.specs.Char.{digit_value}
use Rattle.script.specs.declared.class.Class.TheVariants.{Digit}
use Rattle.script.specs.declared.command.Command.TheVariants as command
use Rattle.script.specs.Grammar.{admits, number, Digits, Spells}
use Rattle.script.specs.Steps.{run}
use Rattle.script.specs.Commands.{ticked}

abbrev Decimal : ℕ → Type 0
Decimal b = (48 ≤ b) × (b ≤ 57) × (digit_value b ≡ b - 48)

pub digit_is : (b : ℕ) → admits Digit b ≡ true → Decimal b
digit_is b h = grind (arith, nat_tests)

pub digit_at : (t : List ℕ) (i : ℕ) → Digits t → i < length t → Decimal (get_or t i 0)
digit_at [] i d h = absurd (omega arith)
digit_at (b ∷ t) zero d h = digit_is b d.0
digit_at (b ∷ t) (suc i) d h = digit_at t i d.1 (omega arith)

pub value_step : (t : List ℕ) (i n : ℕ) → Digits t → i < length t → n ≡ digits_value 10 (take i t) → n * 10 + (get_or t i 0 - 48) ≡ digits_value 10 (take (i + 1) t)
value_step t i n d h e = omega (arith, digits_value_more 10 t i h, (digit_at t i d h).2, e)

-- digits before a space are the run of digits there
run_before : (n : ℕ) (t rest : List ℕ) → Digits t → length t ≤ n → run n (t ++ (32 ∷ rest)) ≡ length t
run_before zero [] rest d h = refl
run_before (suc n) [] rest d h = refl
run_before zero (b ∷ t) rest d h = absurd (omega arith)
run_before (suc n) (b ∷ t) rest d h = cond-true _ _ _ d.0 ∙ ap suc (run_before n t rest d.1 (omega arith))

-- the fields of a tick where their texts stand
pub tick_fields : (i v : List ℕ) → Spells number i → command.Tick (digits_value 10 i) (digits_value 10 v) ≡ ticked (i ++ (32 ∷ v))
tick_fields i v s =
    let fields = i ++ (32 ∷ v) in
    let n = run_before 4 i v s.2 s.1 in
    let first : take (run 4 fields) fields ≡ i = ap (λ k. take k fields) n ∙ take_at i (32 ∷ v) (length i) refl in
    let second : drop (run 4 fields + 1) fields ≡ v =
    ap (λ k. drop (k + 1) fields) n ∙ sym (drop-drop 1 (length i) fields) ∙ ap (drop 1) (drop_at i (32 ∷ v) (length i) refl) in
    λ j. command.Tick (digits_value 10 (sym first j)) (digits_value 10 (sym second j))
