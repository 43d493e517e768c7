-- `pam::sides::Sides::file_length` meets its contract: the header's bytes and four a pixel. Assumes nothing.
use native.Mathlib.Omega.{arith}
use Rattle.pam.specs.Pam.{pam_length}
use Rattle.pam.proofs.DecimalLaws.{decimal_short}
use Rattle.pam.proofs.WrittenLaws.{header_long}
use Rattle.pam.proofs.sides.Sides.file_length.Goals as goal

pub overflow_add-result : goal.overflow_add-result
overflow_add-result c =
    let s = c.args.self in
    omega (arith, c.header_length.ensures, header_long s.width s.height, decimal_short s.width, decimal_short s.height)

pub returns : goal.returns
unfolding pam_length
returns c = omega (arith, c.header_length.ensures, c.pixels.ensures.value)
