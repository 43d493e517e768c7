-- `seconds::is_share` meets its contract: its two tests are the definition's. Assumes nothing.
use mathlib.Core.Path.{refl}
use lib.Ieee.{of_bits}
use Rattle.mixing.specs.Lerp.{between}
use Rattle.lookup.proofs.seconds.is_share.Goals as goal

pub returns : goal.returns
unfolding between of_bits
returns c = refl
