-- `mixing::width_of` meets its contract: the width of the product, or the widest. Assumes nothing.
use mathlib.Core.Path.{sym}
use Rattle.mixing.proofs.Widths.{shift_range, width_full}
use Rattle.mixing.specs.Widths.{width_of}
use Rattle.mixing.proofs.width_of.Goals as goal

pub returns-then-max-gt256 : goal.returns-then-max-gt256
returns-then-max-gt256 c = sym (width_full _ _ (shift_range _ c.requires).0 c.if-max-gt256.true)

pub returns : goal.returns
unfolding width_of
returns c = c.clamp_width.ensures
