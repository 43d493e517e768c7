-- `checks::any_outside` meets its contract. What is said of the parts passed. Assumes nothing.
use mathlib.Core.Bool.{false}
use Prim.Native.Nat.{◌*◌}
use Rattle.lookup.specs.Lists.{Looked}
use Rattle.lookup.proofs.checks.any_outside.Given as goal

abbrev pub invariant-loop-part : goal.invariant-loop-part
invariant-loop-part l = Looked l.oklab (8 * l.part) false
