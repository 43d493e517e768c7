-- `LinearValues::color` meets its contract: a byte's linear value is at most 10^8. Assumes nothing.
use native.Mathlib.Omega.{arith}
use Rattle.conversion.proofs.OklabLaws.{linear_bound}
use Rattle.conversion.proofs.linear.LinearValues.color.Goals as goal

pub invariant_of-result : goal.invariant_of-result
invariant_of-result g c = record { small = linear_bound c.at.ensures c.at-2.ensures c.at-3.ensures (omega arith) (omega arith) (omega arith) }
