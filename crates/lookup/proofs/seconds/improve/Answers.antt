-- `seconds::improve` meets its contract: its test is the definition's. Assumes nothing.
use Rattle.lookup.specs.Second.{improved}
use Rattle.lookup.proofs.seconds.improve.Goals as goal

pub returns-then-mixes-is_below : goal.returns-then-mixes-is_below
unfolding improved
returns-then-mixes-is_below c = rw (← c.is_below.ensures, c.if-mixes-is_below.true)

pub returns : goal.returns
unfolding improved
returns c = rw (← c.is_below.ensures, c.if-mixes-is_below.false)
