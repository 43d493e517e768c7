-- `reducing::luma::unit` meets its contract: its quotient is the definition's. Kept, since the check alone does not open the library's floats.
-- Assumes nothing.
use mathlib.Core.Path.{refl}
use lib.Ieee.{of_int, of_bits, round}
use Rattle.floats.specs.Bytes.{byte_f}
use Rattle.reducing.specs.Luma.{unit}
use Rattle.reducing.proofs.luma.unit.Goals as goal

pub returns : goal.returns
unfolding unit byte_f of_int of_bits round
returns c = refl
