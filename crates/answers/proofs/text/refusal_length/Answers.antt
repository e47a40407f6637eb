use Rattle.std.proofs.Common.{◌≤◌, length, decimal, arith}
use Rattle.std.proofs.lemmas.Fmt.{length-decimal-le}
use Rattle.answers.proofs.text.refusal_length.Goals as goal

pub returns-clause-bound : goal.returns-clause-bound
returns-clause-bound c =
    let short : length (decimal c.from.result) ≤ 3 = length-decimal-le 3 c.from.result (omega arith) (omega (arith, c.from.ensures)) (omega (arith, c.from.ensures)) in
    omega (arith, c.digits.ensures.bound, c.digits-2.ensures.value, short)
