-- `conversion::root::Radicand::scaled` is safe: n / 256 is below 2^52, so that the pattern is no NaN's. Assumes nothing.
use native.Mathlib.Omega.{arith}
use Rattle.conversion.proofs.Bits.{no_nan_bits}
use Rattle.conversion.proofs.root.Radicand.scaled.Goals as goal

pub float_from_bits-result : goal.float_from_bits-result
float_from_bits-result c = no_nan_bits _ (omega arith)
