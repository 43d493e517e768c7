-- `conversion::Difference::raised_quotient` meets its contract: 5 * 10^9, the half of the divisor, is added before the division. Assumes nothing.
use native.Mathlib.Omega.{arith}
use Rattle.conversion.proofs.NearestLaws.{by_offset}
use Rattle.conversion.proofs.Difference.raised_quotient.Goals as goal

pub returns : goal.returns
returns c = by_offset _ _ _ (omega arith) (omega arith) (omega arith)
