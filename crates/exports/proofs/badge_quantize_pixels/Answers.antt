-- `exports::badge_quantize_pixels` meets its contract: where a number names a reduction, the answer's number is handed over. Assumes nothing.
use mathlib.Core.Path.{refl, ◌∙◌}
use Rattle.exports.specs.Pictures.{asked, badge_quantize_pixels}
use Rattle.exports.proofs.PictureLaws.{is_named, quantized_by_case}
use Rattle.exports.proofs.badge_quantize_pixels.Goals as goal

pub returns : goal.returns
returns c =
    let a = c.args in
    let q = asked a.shift a.kind a.width a.height a.reduction.now a.scale.now a.palette.now a.pixels.now a.opaque.now in
    (λ i. (c.replied.ensures i, c.quantize_pixels.new.indices, c.quantize_pixels.new.out, c.quantize_pixels.new.cells))
    ∙ quantized_by_case (q c.in-Ok.by) a.indices.now a.out.now a.cells.now c.quantize_pixels.ensures refl
    ∙ is_named a.reducing (λ by. badge_quantize_pixels (q by) a.indices.now a.out.now a.cells.now) _ c.in-Ok.ensures
