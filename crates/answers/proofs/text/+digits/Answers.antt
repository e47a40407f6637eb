use Rattle.std.proofs.Common.{◌≤◌, length, decimal, sym, arith}
use Rattle.std.proofs.lemmas.Fmt.{length-decimal-le}
use Rattle.itoa.proofs.Decimal.{length_one, length_step_wide}
use Rattle.answers.proofs.text.+digits.Goals as goal

pub overflow_add-result : goal.overflow_add-result
overflow_add-result t c = omega (arith, c.digits.ensures.bound)

pub returns-then-n-lt10 : goal.returns-then-n-lt10
returns-then-n-lt10 t c = record { value = sym (length_one c.args.n (omega arith)); bound = omega arith }

pub returns-else-n-lt10 : goal.returns-else-n-lt10
returns-else-n-lt10 t c =
    let step = length_step_wide c.args.n (omega arith) (omega arith) in
    let short : length (decimal c.args.n) ≤ 10 = length-decimal-le 10 c.args.n (omega arith) (omega arith) (omega arith) in
    record { value = omega (arith, c.digits.ensures.value, step); bound = omega (arith, c.digits.ensures.value, step, short) }
