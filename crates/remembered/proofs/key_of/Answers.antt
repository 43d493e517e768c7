-- `remembered::key_of` meets its contract. Assumes nothing.
use native.Mathlib.Omega.{arith}
use Rattle.remembered.specs.Table.{key_of}
use Rattle.remembered.proofs.key_of.Goals as goal

pub returns : goal.returns
unfolding key_of
returns c = (omega arith, omega arith)
