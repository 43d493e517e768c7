-- `conversion::root::guess` is safe: x is no NaN, being at least 0, and the pattern that is made is below every NaN's. Assumes nothing.
use native.Mathlib.Omega.{arith}
use Rattle.conversion.proofs.Bits.{no_nan_bits}
use Rattle.conversion.proofs.root.guess.Goals as goal

pub float_from_bits-result : goal.float_from_bits-result
float_from_bits-result c = no_nan_bits _ (omega arith)
