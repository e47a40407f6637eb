use Rattle.std.proofs.Common.{◌≡◌, [], ◌∷◌, None, refl, arith}
use Rattle.std.proofs.lemmas.Bool.Decides.{nat_tests}
use Rattle.script.specs.declared.class.Class.TheVariants.{Space, Bit, Hex}
use Rattle.script.specs.Grammar.{one, number, rule}
use Rattle.script.proofs.Lines.{decided_tick, wrong_letter, letter_wrong}
use Rattle.script.proofs.line.body.Goals as goal

pub returns-in_err-current-in-T : goal.returns-in_err-current-in-T
returns-in_err-current-in-T c =
    let rest = c.after_letter-rest.ensures in
    letter_wrong _ 84 c.in-T.is (one Space ∷ number ∷ one Space ∷ number ∷ []) refl decided_tick _ rest.column rest.bytes c.in_err-current-in-T.ensures c.from_residual.ensures.1

pub returns-in_err-one_field-in-O : goal.returns-in_err-one_field-in-O
returns-in_err-one_field-in-O c =
    let rest = c.after_letter-rest.ensures in
    letter_wrong _ 79 c.in-O.is (one Space ∷ one Bit ∷ []) refl tt _ rest.column rest.bytes c.in_err-one_field-in-O.ensures c.from_residual-in_err-one_field-in-O.ensures.1

pub returns-in_err-one_field-in-L : goal.returns-in_err-one_field-in-L
returns-in_err-one_field-in-L c =
    let rest = c.after_letter-rest.ensures in
    letter_wrong _ 76 c.in-L.is (one Space ∷ one Bit ∷ []) refl tt _ rest.column rest.bytes c.in_err-one_field-in-L.ensures c.from_residual-in_err-one_field-in-L.ensures.1

pub returns-in_err-end-in-F : goal.returns-in_err-end-in-F
returns-in_err-end-in-F c =
    let rest = c.after_letter-rest.ensures in
    letter_wrong _ 70 c.in-F.is [] refl tt _ rest.column rest.bytes c.in_err-end-in-F.ensures c.from_residual-in_err-end-in-F.ensures.1

pub returns-in_err-end-in-S : goal.returns-in_err-end-in-S
returns-in_err-end-in-S c =
    let rest = c.after_letter-rest.ensures in
    letter_wrong _ 83 c.in-S.is [] refl tt _ rest.column rest.bytes c.in_err-end-in-S.ensures c.from_residual-in_err-end-in-S.ensures.1

pub returns-in_err-register-in-W : goal.returns-in_err-register-in-W
returns-in_err-register-in-W c =
    let rest = c.after_letter-rest.ensures in
    letter_wrong _ 87 c.in-W.is (one Space ∷ one Hex ∷ one Hex ∷ one Space ∷ one Hex ∷ one Hex ∷ []) refl tt _ rest.column rest.bytes c.in_err-register-in-W.ensures c.from_residual-in_err-register-in-W.ensures.1

pub returns-in_err-one_field-in-G : goal.returns-in_err-one_field-in-G
returns-in_err-one_field-in-G c =
    let rest = c.after_letter-rest.ensures in
    letter_wrong _ 71 c.in-G.is (one Space ∷ one Hex ∷ one Hex ∷ []) refl tt _ rest.column rest.bytes c.in_err-one_field-in-G.ensures c.from_residual-in_err-one_field-in-G.ensures.1

pub returns-in_err-end-in-R : goal.returns-in_err-end-in-R
returns-in_err-end-in-R c =
    let rest = c.after_letter-rest.ensures in
    letter_wrong _ 82 c.in-R.is [] refl tt _ rest.column rest.bytes c.in_err-end-in-R.ensures c.from_residual-in_err-end-in-R.ensures.1

pub returns-in_default : goal.returns-in_default
returns-in_default c = let none : rule c.args.letter ≡ None = grind (arith, nat_tests) in wrong_letter _ _ none
