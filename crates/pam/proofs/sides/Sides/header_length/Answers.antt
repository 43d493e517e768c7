-- `pam::sides::Sides::header_length` meets its contract: what is written beside the digits has 63 bytes. Assumes nothing.
use native.Mathlib.Omega.{arith}
use Rattle.pam.proofs.DecimalLaws.{decimal_short}
use Rattle.pam.proofs.WrittenLaws.{header_long}
use Rattle.pam.proofs.sides.Sides.header_length.Goals as goal

pub overflow_add-result : goal.overflow_add-result
overflow_add-result c = omega (arith, c.digits.ensures, decimal_short c.args.self.width)

pub overflow_add-result-2 : goal.overflow_add-result-2
overflow_add-result-2 c =
    let a = c.args in
    omega (arith, c.digits.ensures, c.digits-2.ensures, decimal_short a.self.width, decimal_short a.self.height)

pub returns : goal.returns
returns c =
    let a = c.args in
    omega (arith, c.digits.ensures, c.digits-2.ensures, header_long a.self.width a.self.height)
