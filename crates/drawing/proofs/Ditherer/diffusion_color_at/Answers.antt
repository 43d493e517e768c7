-- `drawing::Ditherer::diffusion_color_at` meets its contract: the nearest to the biased colour, whose residual is passed on. Assumes nothing.
use mathlib.Core.Bool.{false}
use Rattle.drawing.proofs.StepLaws.{diffused_is, diffusion_plain, remembers_as, remembers_of}
use Rattle.drawing.proofs.Ditherer.diffusion_color_at.Goals as goal

pub nearest_color-chosen-requires : goal.nearest_color-chosen-requires
nearest_color-chosen-requires c =
    let p = c.requires in
    (p.0, remembers_as c.args.self _ _ false (diffusion_plain c.args.self.kind p.2) p.5)

pub returns : goal.returns
returns c =
    let near = c.nearest_color-chosen.ensures in (
      diffused_is _ _ _ _ _ _ _ _ _ _ _ _ c.biased_color-biased.ensures near.0 c.normalize_color-normalized.ensures c.column.ensures.0
          c.row.ensures.0 c.diffuse_residual.ensures,
      remembers_of c.args.self _ _ false (diffusion_plain c.args.self.kind c.requires.2) near.1,
    )
