-- `conversion::root::Radicand::raised` meets its contract: c stays a number that is not too high, so that it stays at most a million. The measure is what is
-- left of the million. Assumes nothing.
use Prim.Native.Nat.{◌-◌, ◌*◌, ◌≤◌}
use Rattle.conversion.specs.Root.{cube}
use Rattle.conversion.proofs.root.Radicand.raised.Given as goal

abbrev pub invariant-loop-self : goal.invariant-loop-self
invariant-loop-self l = (cube (2 * l.c - 1) ≤ 8 * l.self.n) × (l.c ≤ 1000000)

abbrev pub decreases-loop-self : goal.decreases-loop-self
decreases-loop-self l = 1000000 - l.c
