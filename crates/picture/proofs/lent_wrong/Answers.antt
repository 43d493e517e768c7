-- `picture::lent_wrong` meets its contract: its tests are the definition's. The check would find this alone; it is kept so that an edit's refusal names the
-- false fact. Assumes nothing.
use mathlib.Core.Bool.{not, ◌||◌}
use Prim.Native.Nat.{◌*◌}
use lib.Dec.{eqb}
use Rattle.picture.specs.Bounds.{lent_wrong}
use Rattle.picture.proofs.lent_wrong.Goals as goal

pub returns : goal.returns
unfolding lent_wrong
returns c =
    λ i. c.table_wrong.ensures i || (c.table_wrong-2.ensures i || (not (eqb c.args.pixels (4 * c.args.n)) || not (eqb c.args.opaque (c.opaque_needed.ensures i))))
