-- `exports::badge_candidate_colors_in` meets its contract: where a number names a reduction, the answer decides the number and the count. Assumes nothing.
use mathlib.Core.Path.{◌∙◌}
use Rattle.exports.specs.Pictures.{lent_to, badge_candidate_colors_in}
use Rattle.exports.proofs.PictureLaws.{is_named, candidates_left}
use Rattle.exports.proofs.badge_candidate_colors_in.Goals as goal

pub returns : goal.returns
returns c =
    let a = c.args in
    let x = lent_to a.shift a.width a.height a.reduction.now a.scale.now a.pixels.now a.opaque.now a.places.now a.oklab.now in
    candidates_left (x c.in-Ok.by) a.count.now c.candidate_colors_in-counted.ensures c.handed.ensures
    ∙ is_named a.reducing (λ by. badge_candidate_colors_in (x by) a.count.now) _ c.in-Ok.ensures
