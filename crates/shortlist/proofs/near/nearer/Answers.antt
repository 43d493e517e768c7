-- `near::nearer` meets its contract: by its test. Assumes nothing.
use Rattle.shortlist.specs.Nearest.{nearer_of}
use Rattle.shortlist.proofs.near.nearer.Goals as goal

pub returns-then-b-a : goal.returns-then-b-a
unfolding nearer_of
returns-then-b-a c = rw c.if-b-a.true

pub returns : goal.returns
unfolding nearer_of
returns c = rw c.if-b-a.false
