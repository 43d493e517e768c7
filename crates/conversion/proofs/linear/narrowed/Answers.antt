-- The answers for `linear::narrowed`: its contract follows from its invariant. Assumes nothing.
use mathlib.Core.Path.{◌≡◌, ap, ◌∙◌}
use mathlib.Core.List.{[], ◌∷◌}
use Prim.Native.Nat.{ℕ}
use native.Mathlib.Omega.{arith}
use lib.ListN.{set}
use Rattle.lists.specs.Gather.{gather}
use Rattle.lists.proofs.FillLaws.{fill_begin, fill_set, fill_done}
use Rattle.conversion.specs.Linear.{linear_of}
use Rattle.conversion.proofs.LinearLaws.{all_values}
use Rattle.conversion.proofs.linear.narrowed.Goals as goal

pub loop-k-init : goal.loop-k-init
loop-k-init c = fill_begin 1 _ _

pub loop-k-preserved : goal.loop-k-preserved
loop-k-preserved c = fill_set c.loop-k.invariant (omega arith) (ap (set c.loop-k.entries c.loop-k.k) c.narrow.ensures)

pub returns : goal.returns
returns c =
    let i = c.loop-k.invariant in
    let e : c.loop-k.k ≡ 256 = omega (arith, i.within) in
    all_values c.loop-k.entries (fill_done i (omega arith) ∙ ap (λ (n : ℕ). gather n (λ k. linear_of k ∷ [])) e)
