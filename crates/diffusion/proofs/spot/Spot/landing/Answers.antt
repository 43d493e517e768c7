-- `Spot::landing` meets its contract: each test leads to the place that the column and the row have. Assumes nothing.
use mathlib.Core.Path.{◌≡◌, sym, ap, ◌∙◌}
use Prim.Native.Nat.{◌+◌, ◌*◌}
use native.Mathlib.Omega.{arith}
use lib.Dec.{T}
use lib.IntN.{ℤ}
use Rattle.patterns.specs.declared.Target.{Target}
use Rattle.patterns.specs.Kernel.{Place, place, landing, near}
use Rattle.diffusion.specs.declared.spot.Spot.{Spot}
use Rattle.diffusion.proofs.Rounding.{not_below_zero}
use Rattle.diffusion.proofs.Targets.{near_parts}
use Rattle.diffusion.proofs.Spots.{column, moved, left_of_lem, past_right, below, within, landing_at}
use Rattle.diffusion.proofs.spot.Spot.landing.Goals.{then-nx-lt0-via-then-nx-lt0, then-nx-lt0-via-else-nx-lt0+then-nx-self, then-nx-lt0-via-else-nx-lt0+else-nx-self+then-ny-self}
use Rattle.diffusion.proofs.spot.Spot.landing.Goals as goal

-- the place that the machine's column has is the target's
carried : (s : Spot) (t : Target) → T (near t) → {p : Place} → p ≡ place s.width s.height (column s.x t.dx) (s.y + t.dy)
    → p ≡ landing s.width s.height (s.y * s.width + s.x) t
carried s t n e =
    e
    ∙ ap (λ (z : ℤ). place s.width s.height z (s.y + t.dy)) (moved s.x t.dx (omega (arith, s.column, s.wide)) (near_parts t n).0)
    ∙ sym (landing_at s.width s.height s.x s.y t s.column)

pub returns-then-nx-lt0 : goal.returns-then-nx-lt0
returns-then-nx-lt0 c =
    elim c.then-nx-lt0.branch [
      | then-nx-lt0-via-then-nx-lt0 w ↦ carried c.args.self c.args.target c.requires (left_of_lem _ _ _ _ w.if-nx-lt0.true)
      | then-nx-lt0-via-else-nx-lt0+then-nx-self w ↦ carried c.args.self c.args.target c.requires (past_right _ _ _ _ w.if-nx-self.true)
      | then-nx-lt0-via-else-nx-lt0+else-nx-self+then-ny-self w ↦ carried c.args.self c.args.target c.requires (below _ _ _ _ w.if-ny-self.true)
    ]

pub returns : goal.returns
returns c =
    carried c.args.self c.args.target c.requires
    (within _ _ _ _ (not_below_zero _ c.if-nx-lt0.false) c.if-nx-self.false c.if-ny-self.false)
