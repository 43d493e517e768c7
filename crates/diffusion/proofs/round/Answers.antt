-- `diffusion::round` meets its contract: a number is rounded by its size, and a negative one's sign put back. Assumes nothing.
use Rattle.diffusion.proofs.Machine.{number, rounded_is, above_is}
use Rattle.diffusion.proofs.round.Goals as goal

pub returns-then-n-lt0 : goal.returns-then-n-lt0
returns-then-n-lt0 c = rw (c.unsigned_abs-size.ensures.value, number c.args.n c.requires) (rounded_is c.args.n c.requires c.if-n-lt0.true)

pub returns : goal.returns
returns c = rw (c.unsigned_abs-size.ensures.value, number c.args.n c.requires) (above_is c.args.n c.requires c.if-n-lt0.false)
