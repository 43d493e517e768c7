-- `conversion::root::Radicand::lowered` meets its contract: c only falls, and 0 is not too high. Assumes nothing.
use Prim.Native.Nat.{◌<◌}
use Rattle.conversion.proofs.root.Radicand.lowered.Given as goal

abbrev pub invariant-loop-self : goal.invariant-loop-self
invariant-loop-self l = l.c < 1048576

abbrev pub decreases-loop-self : goal.decreases-loop-self
decreases-loop-self l = l.c
