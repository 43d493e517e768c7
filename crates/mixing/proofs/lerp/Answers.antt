-- `mixing::lerp` meets its contract: the share, clamped where that is asked for. Assumes nothing.
use mathlib.Core.Path.{ap, ◌∙◌}
use lib.Ieee.{of_bits}
use Rattle.mixing.specs.Lerp.{clamp_of, lerp_of}
use Rattle.mixing.proofs.lerp.Goals as goal

pub returns-then-clamp : goal.returns-then-clamp
unfolding lerp_of clamp_of of_bits
returns-then-clamp c = rw c.if-clamp.true (c.clamp.ensures.value ∙ ap clamp_of c.share-t.ensures)

pub returns-else-clamp : goal.returns-else-clamp
unfolding lerp_of
returns-else-clamp c = rw c.if-clamp.false c.share-t.ensures
