-- `conversion::linear::narrow` meets its contract: a value is at most 10^8, and fits 32 bits. Assumes nothing.
use native.Mathlib.Omega.{arith}
use Rattle.conversion.proofs.LinearLaws.{entry, value_small}
use Rattle.conversion.proofs.linear.narrow.Goals as goal

pub overflow_cast-result : goal.overflow_cast-result
overflow_cast-result c =
    let p = c.requires in
    omega (arith, value_small _ _ (entry _ _ p.0) p.1)

pub returns : goal.returns
returns c = entry _ _ c.requires.0
