-- `checks::some_outside` meets its contract. What is said of the components passed. Assumes nothing.
use mathlib.Core.Bool.{false}
use Rattle.lookup.specs.Lists.{Looked}
use Rattle.lookup.proofs.checks.some_outside.Given as goal

abbrev pub invariant-loop-k : goal.invariant-loop-k
invariant-loop-k l = Looked l.oklab l.from false → Looked l.oklab l.k l.outside
