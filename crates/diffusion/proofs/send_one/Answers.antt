-- `diffusion::send_one` meets its contract: the product and the sum have room in 16 bits, and one cell is more by the product. Assumes nothing.
use mathlib.Core.Path.{ap}
use lib.IntN.{pos}
use lib.ListN.{get_or, set}
use Rattle.diffusion.specs.Scatter.{more}
use Rattle.diffusion.proofs.Machine.{sum_fits, sum_is}
use Rattle.diffusion.proofs.send_one.Goals as goal

pub returns : goal.returns
unfolding more
returns c =
    let a = c.args in
    ap (set a.cells.now a.at) (sum_is (get_or a.cells.now a.at (pos 0)) a.residual a.weight c.requires.1 c.requires.2)

pub overflow_add-cells : goal.overflow_add-cells
overflow_add-cells c =
    let a = c.args in
    sum_fits (get_or a.cells.now a.at (pos 0)) a.residual a.weight c.requires.1 c.requires.2
