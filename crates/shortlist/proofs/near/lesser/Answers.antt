-- `near::lesser` meets its contract: its test is the definition's. Assumes nothing.
use Rattle.shortlist.specs.Nearest.{lesser_of}
use Rattle.shortlist.proofs.near.lesser.Goals as goal

pub returns-then-b-a : goal.returns-then-b-a
unfolding lesser_of
returns-then-b-a c = rw c.if-b-a.true

pub returns : goal.returns
unfolding lesser_of
returns c = rw c.if-b-a.false
