-- `mixing::share` meets its contract: the test of the length, and the quotient. Assumes nothing.
use lib.Ieee.{of_bits}
use Rattle.mixing.specs.Lerp.{share_of}
use Rattle.mixing.proofs.share.Goals as goal

pub returns-then-len2 : goal.returns-then-len2
unfolding share_of of_bits
returns-then-len2 c = rw (← c.along-len2.ensures, c.if-len2.true)

pub returns : goal.returns
unfolding share_of of_bits
returns c = rw (← c.along-len2.ensures, c.if-len2.false, ← c.along.ensures)
