-- `exports::badge_nearest` meets its contract: the position fits. Assumes nothing.
use native.Mathlib.Omega.{arith}
use Rattle.exports.proofs.LookupLaws.{position_small}
use Rattle.exports.proofs.badge_nearest.Goals as goal

pub overflow_cast-position : goal.overflow_cast-position
overflow_cast-position c =
    let a = c.args in
    omega (arith, position_small a.reduced.now a.normalized.now a.oklab.now c.new-color.result c.flat_nearest-nearest.ensures c.in-Ok.is)
