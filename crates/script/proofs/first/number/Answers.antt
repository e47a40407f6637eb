use Rattle.std.proofs.Common.{◌≡◌, ◌+◌, Some, None, sym, refl, ◌∙◌, inl, inr, arith}
use Rattle.std.proofs.lemmas.Bool.{eqb-true, eqb-false}
use Rattle.script.proofs.Steps.{handed_on}
use Rattle.script.proofs.Opening.{wrong_short, wrong_digit, begun_more, blocked_here, all_read}
use Rattle.script.proofs.first.number.Goals as goal

pub returns-then-is_empty : goal.returns-then-is_empty
returns-then-is_empty c = wrong_short c.args.digits.now (eqb-true _ 0 (sym c.if-is_empty.ensures))

pub returns-then-i-eq-MOST_DIGITS : goal.returns-then-i-eq-MOST_DIGITS
returns-then-i-eq-MOST_DIGITS c = wrong_digit c.args.digits.now _ _ _ c.loop-i.invariant (omega arith) (inr (inl (omega arith))) refl

pub returns-in_err-n : goal.returns-in_err-n
returns-in_err-n c =
    let none : c.lengthened.result ≡ None = grind arith in
    let column : c.in_err-n.field-0.0 ≡ c.loop-i.i + 3 = grind arith in
    let why = blocked_here c.args.digits.now _ _ c.loop-i.invariant (omega arith) (sym c.lengthened.ensures ∙ none) in
    handed_on _ _ _ _ c.from_residual.ensures.1 (wrong_digit c.args.digits.now _ _ _ c.loop-i.invariant (omega arith) why column)

pub loop-i-preserved : goal.loop-i-preserved
loop-i-preserved c =
    let some : c.lengthened.result ≡ Some c.in_ok-n.n = grind arith in
    begun_more c.args.digits.now _ _ _ c.loop-i.invariant (omega arith) (omega arith) (sym c.lengthened.ensures ∙ some)

pub returns : goal.returns
returns c = all_read c.args.digits.now _ _ (omega (arith, eqb-false _ 0 (sym c.if-is_empty.ensures))) c.loop-i.invariant (omega arith)
