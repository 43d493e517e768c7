-- The answers for `luma::cut_down`: its contract follows from its invariants.
use Prim.Native.Nat.{◌<◌}
use native.Mathlib.Omega.{arith}
use Rattle.floats.specs.Bytes.{byte_f}
use Rattle.reducing.specs.Luma.{cut_byte}
use Rattle.reducing.proofs.CutLaws.{cut_lt, cut_ge}
use Rattle.reducing.proofs.luma.cut_down.Goals as goal

-- x is cut below the number
above : (c : goal.In-loop-n) → cut_byte c.args.x < c.loop-n.n
unfolding byte_f
above c = cut_lt _ _ c.requires c.loop-n.invariant c.loop-n-test.true

pub overflow_sub-n : goal.overflow_sub-n
overflow_sub-n c = omega (arith, above c)

pub loop-n-smaller : goal.loop-n-smaller
loop-n-smaller c = omega (arith, above c)

pub returns : goal.returns
unfolding byte_f
returns c = cut_ge _ _ c.requires c.loop-n.invariant c.loop-n-test.false
