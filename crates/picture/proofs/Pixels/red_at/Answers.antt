-- `picture::Pixels::red_at` meets its contract: the lent red through the table, which is that of the reduced colour where the pixel is seen and its channels
-- are kept. Assumes nothing.
use mathlib.Core.Path.{ap, ◌∙◌}
use lib.ListN.{get_or}
use Rattle.color.specs.declared.NormalizedColor.{NormalizedColor}
use Rattle.picture.proofs.PixelLaws.{seen_red}
use Rattle.picture.proofs.Pixels.red_at.Goals as goal

pub returns : goal.returns
returns c =
    let pixels = c.args.self.now in
    λ by kept seen. c.looked_up.ensures ∙ ap (λ (x : NormalizedColor). get_or pixels.reduction.now x.0.r 0) c.source_at-c.ensures
    ∙ seen_red by pixels.reduction.now pixels.bytes.now c.args.i kept seen
