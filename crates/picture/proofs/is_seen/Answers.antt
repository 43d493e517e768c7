-- `picture::is_seen` meets its contract: the test of the pixel's alpha. The check would find this alone; it is kept so that an edit's refusal names the false
-- fact. Assumes nothing.
use mathlib.Core.Path.{ap}
use mathlib.Core.Bool.{not}
use lib.Dec.{ltb}
use Rattle.color.specs.declared.NormalizedColor.{NormalizedColor}
use Rattle.picture.proofs.is_seen.Goals as goal

pub returns : goal.returns
returns c = ap (λ (x : NormalizedColor). not (ltb x.0.a c.args.least)) c.source_at-c.ensures
