-- `color::in_range` meets its contract: its two tests are the definition's. Kept, since the check alone does not
-- open the library's `of_bits`. Assumes nothing.
use mathlib.Core.Path.{refl}
use lib.Ieee.{of_bits}
use Rattle.color.specs.Oklab.{in_range}
use Rattle.color.proofs.in_range.Goals as goal

pub returns : goal.returns
unfolding in_range of_bits
returns c = refl
