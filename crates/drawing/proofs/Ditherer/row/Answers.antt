-- `drawing::Ditherer::row` meets its contract: the width is not 0, and the rows are those of the picture. Assumes nothing.
use mathlib.Core.Path.{refl}
use native.Mathlib.Omega.{arith}
use Rattle.drawing.proofs.PlaceLaws.{some_wide, row_inside}
use Rattle.drawing.proofs.Ditherer.row.Goals as goal

pub nonzero_div-result : goal.nonzero_div-result
nonzero_div-result c = omega (arith, some_wide _ _ _ c.requires)

pub overflow_cast-result-2 : goal.overflow_cast-result-2
overflow_cast-result-2 c = record { fits = omega (arith, row_inside _ _ _ c.requires) }

pub returns : goal.returns
returns c = (refl, row_inside _ _ _ c.requires)
