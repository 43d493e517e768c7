-- `reducing::luma::cut_up` meets its contract: the number goes up while x is not below the next, and never past where x is cut. Assumes nothing.
use Prim.Native.Nat.{◌≤◌}
use Rattle.reducing.specs.Luma.{cut_byte}
use Rattle.reducing.proofs.luma.cut_up.Given as goal

abbrev pub invariant-loop-n : goal.invariant-loop-n
invariant-loop-n l = l.n ≤ cut_byte l.x
