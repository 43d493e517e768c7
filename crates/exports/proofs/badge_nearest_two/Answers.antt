-- `exports::badge_nearest_two` meets its contract: the positions fit. Assumes nothing.
use native.Mathlib.Omega.{arith}
use Rattle.exports.proofs.LookupLaws.{positions_small}
use Rattle.exports.proofs.badge_nearest_two.Goals as goal

pub overflow_cast-nearest : goal.overflow_cast-nearest
overflow_cast-nearest c =
    let a = c.args in
    omega (
      arith,
      (positions_small a.reduced.now a.normalized.now a.oklab.now c.new-color.result a.width c.flat_nearest_two.ensures c.in-Ok.is).0,
    )

pub overflow_cast-other : goal.overflow_cast-other
overflow_cast-other c =
    let a = c.args in
    omega (
      arith,
      c.unwrap_or-other.ensures,
      (positions_small a.reduced.now a.normalized.now a.oklab.now c.new-color.result a.width c.flat_nearest_two.ensures c.in-Ok.is).1,
    )
