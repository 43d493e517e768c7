-- `same_reduced` meets its contract: its tests are the definition's. Assumes nothing.
use mathlib.Core.Path.{◌≡◌, refl, ap, ◌∙◌}
use mathlib.Core.Bool.{Bool, true, false, ◌&&◌}
use lib.Dec.{eqb}
use Rattle.color.specs.Color.{same_rgb, same_reduced}
use Rattle.lookup.proofs.same_reduced.Goals as goal

together : (p q r s : Bool) → (p && (q && r)) && s ≡ p && (q && (r && s))
together true true r s = refl
together true false r s = refl
together false q r s = refl

pub returns : goal.returns
unfolding same_rgb same_reduced
returns c =
    let a = c.args.a.0 in
    let b = c.args.b.0 in
    ap (λ (t : Bool). t && eqb a.a b.a) c.eq_rgb.ensures ∙ together (eqb a.r b.r) (eqb a.g b.g) (eqb a.b b.b) (eqb a.a b.a)
