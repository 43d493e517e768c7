-- `conversion::Difference::component` meets its contract: the quotient is below 2^24, so that as an f32 it is exact, and its quotient by a million is
-- rounded once. Assumes nothing.
use mathlib.Core.Path.{◌≡◌, ap, ◌∙◌}
use Prim.Native.Nat.{ℕ, suc, ◌^◌, ◌≤◌, ◌<◌}
use native.Mathlib.Omega.{arith}
use lib.Dec.{T, le→leb}
use lib.IntN.{ℤ, pos, negsuc, nat_abs, ◌-ℤ◌}
use lib.Ieee.{binary32, in_float}
use mir.Syntax.{w32}
use mir.Facts.{to_z-of_z}
use Rattle.floats.specs.Over.{millionths}
use Rattle.floats.proofs.Whole.{millionths_of_lem}
use Rattle.conversion.specs.Nearest.{nearest}
use Rattle.conversion.proofs.NearestLaws.{nearest_size, fits_i32}
use Rattle.conversion.proofs.Difference.component.Goals as goal

in_float_lem : (z : ℤ) → nat_abs z ≤ 3000000 → T (in_float binary32 z)
unfolding in_float
in_float_lem (pos n) h = le→leb n (2 ^ 24) (omega arith)
in_float_lem (negsuc n) h = le→leb (suc n) (2 ^ 24) (omega arith)

small : (p n : ℕ) (z : ℤ) → p ≤ 30000000000000000 → n ≤ 30000000000000000 → z ≡ nearest 10000000000 (pos p -ℤ pos n) → nat_abs z ≤ 3000000
small p n z h k e = rw e (nearest_size 10000000000 3000000 p n (omega arith) (omega arith) (omega arith))

below : (z : ℤ) → nat_abs z ≤ 3000000 → nat_abs z < 2 ^ 24
below z h = omega arith

pub int_to_float-result : goal.int_to_float-result
int_to_float-result c =
    let z = c.divided.result in
    let h = small c.args.self.plus c.args.self.minus z (omega arith) (omega arith) c.divided.ensures in
    rw (to_z-of_z {w = w32} (fits_i32 z (omega arith))) (in_float_lem z h)

pub returns : goal.returns
returns c =
    let z = c.divided.result in
    let h = small c.args.self.plus c.args.self.minus z (omega arith) (omega arith) c.divided.ensures in
    rw (to_z-of_z {w = w32} (fits_i32 z (omega arith))) (millionths_of_lem z (below z h) ∙ ap millionths c.divided.ensures)
