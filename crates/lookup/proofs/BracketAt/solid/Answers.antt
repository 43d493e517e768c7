-- `BracketAt::solid` meets its contract: the literal is 0. Assumes nothing.
use mathlib.Core.Path.{refl}
use lib.Ieee.{of_bits}
use Rattle.lookup.proofs.BracketAt.solid.Goals as goal

pub returns : goal.returns
unfolding of_bits
returns c = refl
