-- The answers for `checks::any_outside`: its contract follows from its invariant.
use mathlib.Core.Path.{subst}
use mathlib.Core.Bool.{Bool, false}
use Prim.Native.Nat.{ℕ, ◌+◌, ◌*◌}
use native.Mathlib.Nat.{le_antisymm}
use native.Mathlib.Omega.{arith}
use Rattle.lookup.specs.Lists.{Looked}
use Rattle.lookup.proofs.ListLaws.{looked_some, looked_all}
use Rattle.lookup.proofs.checks.any_outside.Goals as goal

pub returns-then-some_outside : goal.returns-then-some_outside
returns-then-some_outside c =
    let xs = c.args.oklab.now in
    let k = 8 * c.loop-part.part + 8 in
    looked_some xs k (omega (arith, c.loop-part-test.true)) (subst (λ (t : Bool). Looked xs k t) c.if-some_outside.true (c.some_outside.ensures c.loop-part.invariant))

pub returns : goal.returns
returns c =
    let xs = c.args.oklab.now in
    looked_all xs c.some_outside-2.result
    (c.some_outside-2.ensures
    (subst (λ (i : ℕ). Looked xs (8 * i) false) (le_antisymm c.loop-part.auto.part-end c.loop-part-test.false) c.loop-part.invariant))
