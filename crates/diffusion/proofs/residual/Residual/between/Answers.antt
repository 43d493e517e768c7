-- `Residual::between` meets its contract: the difference of two bytes has room in 16 bits. Assumes nothing.
use borrow.Author.Rules.{rules}
use Prim.Native.Nat.{zero, suc}
use Rattle.diffusion.proofs.Machine.{left_is}
use Rattle.diffusion.proofs.residual.Residual.between.Goals as goal

pub returns : goal.returns
returns c zero = left_is c.args.biased.0.r c.args.chosen.0.r (search rules) (search rules)
returns c (suc zero) = left_is c.args.biased.0.g c.args.chosen.0.g (search rules) (search rules)
returns c (suc (suc a)) = left_is c.args.biased.0.b c.args.chosen.0.b (search rules) (search rules)
