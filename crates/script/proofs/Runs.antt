-- The digits that bytes begin with.
use Rattle.std.proofs.Common.{◌≡◌, ℕ, zero, suc, List, [], ◌∷◌, length, take, cond, refl, ap, ◌∙◌, arith}
use Rattle.std.specs.Prelude.{take_while}
use Rattle.std.specs.List.{prefix_len}
use Rattle.std.proofs.lemmas.List.Folds.{length-prefix_len}
use Rattle.script.specs.declared.class.Class.TheVariants.{Digit}
use Rattle.script.specs.Grammar.{admits}
use Rattle.script.specs.Steps.{run}

prefix_is_run : (n : ℕ) (bs : List ℕ) → prefix_len (admits Digit) (take n bs) ≡ run n bs
prefix_is_run zero bs = refl
prefix_is_run (suc n) [] = refl
prefix_is_run (suc n) (b ∷ bs) = ap (λ k. cond (admits Digit b) k 0) (omega (arith, prefix_is_run n bs))

pub taken_is_run : (n : ℕ) (bs : List ℕ) → length (take_while (admits Digit) (take n bs)) ≡ run n bs
taken_is_run n bs = length-prefix_len (admits Digit) (take n bs) ∙ prefix_is_run n bs
