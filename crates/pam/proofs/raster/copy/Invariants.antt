-- `raster::copy` meets its contract. The invariant: the first i bytes are in place. Assumes nothing.
use mathlib.Core.List.{[], ◌∷◌}
use lib.ListN.{get_or}
use Rattle.lists.proofs.FillLaws.{Filling}
use Rattle.pam.proofs.raster.copy.Given as goal

abbrev pub invariant-loop-i : goal.invariant-loop-i
invariant-loop-i l = Filling 1 (λ j. get_or l.from j 0 ∷ []) l.initial.to l.to l.i
