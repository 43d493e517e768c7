-- `reducing::luma::cut_down` meets its contract: the number goes down while x is below it, and so while x is cut below it. Assumes nothing.
use Prim.Native.Nat.{◌<◌}
use Rattle.reducing.proofs.luma.cut_down.Given as goal

abbrev pub invariant-loop-n : goal.invariant-loop-n
invariant-loop-n l = l.n < 256

abbrev pub decreases-loop-n : goal.decreases-loop-n
decreases-loop-n l = l.n
