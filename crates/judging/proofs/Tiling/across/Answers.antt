-- `Tiling::across` meets its contract: the code is the definition. Assumes nothing.
use mathlib.Core.Path.{refl}
use Rattle.judging.specs.Tiles.{tiles_over}
use Rattle.judging.proofs.Tiling.across.Goals as goal

pub returns : goal.returns
unfolding tiles_over
returns c = refl
