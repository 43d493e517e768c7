-- `pam::writing::digits` meets its contract: a tenth has one digit less. Assumes nothing.
use mathlib.Core.Path.{sym}
use Prim.Native.Nat.{◌/◌}
use native.Mathlib.Omega.{arith}
use Rattle.pam.proofs.DecimalLaws.{decimal_one_long, decimal_more_long, decimal_short}
use Rattle.pam.proofs.writing.+digits.Goals as goal

pub returns-then-n-lt10 : goal.returns-then-n-lt10
returns-then-n-lt10 t c = sym (decimal_one_long c.args.n c.if-n-lt10.true)

pub overflow_add-result : goal.overflow_add-result
overflow_add-result t c = omega (arith, c.digits.ensures, decimal_short (c.args.n / 10))

pub returns : goal.returns
returns t c = omega (arith, c.digits.ensures, decimal_more_long c.args.n c.if-n-lt10.false (omega arith))
