-- `diffusion::biased` meets its contract: sixteen times the source, plus the cell, is rounded and clipped. Assumes nothing.
use mathlib.Core.Path.{◌∙◌, ap}
use lib.IntN.{ℤ}
use mir.Syntax.{w16, w32}
use mir.ValLaws.{to_z-of_z}
use Rattle.diffusion.specs.Biased.{biased_of, clip, halves}
use Rattle.diffusion.proofs.biased.Goals as goal

pub returns : goal.returns
returns c =
    let s = c in
    let sum = c.in_sixteenths in
    c.clamp_u8.ensures
    ∙ ap (λ (z : ℤ). clip (halves z)) (to_z-of_z w32 sum.result (record { sfits = sum.type_inv }) ∙ sum.ensures)
    ∙ unfold biased_of in ap (biased_of s.args.source) (to_z-of_z w16 s.args.cell s.ranges.cell)
