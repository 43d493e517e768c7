-- The answers for `luma::cut_up`: its contract follows from its invariant.
use Prim.Native.Nat.{◌+◌}
use native.Mathlib.Nat.{le_antisymm}
use native.Mathlib.Omega.{arith}
use lib.Ieee.Casts.{to_unsigned-lt}
use Rattle.floats.specs.Bytes.{byte_f}
use Rattle.reducing.proofs.CutLaws.{cut_lt, cut_ge}
use Rattle.reducing.proofs.luma.cut_up.Goals as goal

pub returns-then-x-n : goal.returns-then-x-n
unfolding byte_f
returns-then-x-n c = le_antisymm c.loop-n.invariant (omega (arith, cut_lt _ (c.loop-n.n + 1) c.requires.0 (omega arith) c.if-x-n.true))

pub loop-n-preserved : goal.loop-n-preserved
unfolding byte_f
loop-n-preserved c = cut_ge _ _ c.requires.0 (omega arith) c.if-x-n.false

pub returns : goal.returns
returns c = omega (arith, to_unsigned-lt 8 c.args.x, c.loop-n.invariant)
