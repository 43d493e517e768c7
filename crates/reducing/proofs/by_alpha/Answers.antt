-- `reducing::by_alpha` meets its contract: the test of alpha. Assumes nothing.
use borrow.Author.Tests.{lt-ltb, le-ltb}
use Rattle.reducing.specs.Reduce.{by_alpha}
use Rattle.reducing.proofs.by_alpha.Goals as goal

pub returns-then-c-lt128 : goal.returns-then-c-lt128
unfolding by_alpha
returns-then-c-lt128 c = rw (lt-ltb _ 128 c.if-c-lt128.true)

pub returns : goal.returns
unfolding by_alpha
returns c = rw (le-ltb _ 128 c.if-c-lt128.false) (cc)
