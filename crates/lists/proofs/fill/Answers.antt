-- The answers for `fill`: its contract follows from its invariant.
use mathlib.Core.Path.{refl}
use native.Mathlib.Omega.{arith}
use Rattle.lists.proofs.FillLaws.{fill_begin, fill_set, fill_value}
use Rattle.lists.proofs.fill.Goals as goal

pub loop-x-init : goal.loop-x-init
loop-x-init g c = fill_begin 1 _ _

pub loop-x-preserved : goal.loop-x-preserved
loop-x-preserved g c = fill_set c.loop-x.invariant (omega arith) refl

pub returns : goal.returns
returns g c = fill_value c.loop-x.invariant (omega arith)
