-- The invariant of `diffusion::diffuse`: the sends to the targets so far are done.
use Prim.Native.Nat.{◌+◌, ◌*◌}
use lib.ListN.{take}
use mathlib.Core.Path.{◌≡◌}
use Rattle.diffusion.specs.Scatter.{sends}
use Rattle.diffusion.specs.Sends.{in_order}
use Rattle.diffusion.proofs.diffuse.Given as goal

abbrev pub invariant-loop-target : goal.invariant-loop-target
invariant-loop-target l =
    l.cells ≡ sends l.initial.cells (in_order l.residual) (take l.target-index l.kernel) l.spot.width l.spot.height (l.spot.y * l.spot.width + l.spot.x)
