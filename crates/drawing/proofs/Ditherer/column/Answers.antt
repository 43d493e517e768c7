-- `drawing::Ditherer::column` meets its contract: the width is not 0, and what is left over is below it. Assumes nothing.
use mathlib.Core.Path.{refl}
use native.Mathlib.Omega.{arith}
use Rattle.drawing.proofs.PlaceLaws.{some_wide, column_inside}
use Rattle.drawing.proofs.Ditherer.column.Goals as goal

pub nonzero_rem-result : goal.nonzero_rem-result
nonzero_rem-result c = omega (arith, some_wide _ _ _ c.requires)

pub overflow_cast-result-2 : goal.overflow_cast-result-2
overflow_cast-result-2 c = record { fits = omega (arith, column_inside _ _ _ c.requires) }

pub returns : goal.returns
returns c = (refl, column_inside _ _ _ c.requires)
