-- `drawing::nearest_color` meets its contract: the entry at the nearest position, which is below the count. Assumes nothing.
use native.Mathlib.Omega.{arith}
use Rattle.conversion.specs.Oklab.{to_oklab}
use Rattle.shortlist.proofs.NearestLaws.{nearest_inside}
use Rattle.remembered.specs.Lent.{labs}
use Rattle.drawing.proofs.StepLaws.{nearest_is}
use Rattle.drawing.proofs.nearest_color.Goals as goal

pub rgba_at-requires : goal.rgba_at-requires
rgba_at-requires c =
    let cs = c.args.candidates.now in
    let inside = nearest_inside (labs cs.oklabs) cs.oklabs.count (to_oklab c.args.color) c.requires.0 in
    omega (arith, c.nearest_position-k.ensures.0, inside, cs.room)

pub returns : goal.returns
returns c =
    let cs = c.args.candidates.now in
    let n = c.nearest_position-k.ensures in
    (nearest_is cs.colors.now cs.scale.now cs.oklabs.oklab.now _ c.requires.0 cs.oklabs.ranged _ _ c.args.color n.0 c.rgba_at.ensures, n.1)
