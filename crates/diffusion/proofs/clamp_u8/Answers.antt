-- `diffusion::clamp_u8` meets its contract: what is rounded is cut at 0 and at 255. Assumes nothing.
use mathlib.Core.Path.{◌≡◌, ap, ◌∙◌}
use lib.IntN.{nat_abs}
use mir.Syntax.{w32}
use mir.Val.{to_z, of_z}
use mir.ValLaws.{to_z-of_z}
use Rattle.diffusion.specs.Biased.{halves, clip}
use Rattle.diffusion.proofs.Rounding.{clamped}
use Rattle.diffusion.proofs.Machine.{number}
use Rattle.diffusion.proofs.clamp_u8.Goals as goal

pub returns : goal.returns
returns c =
    let n = c.args.n in
    let r = c.round.result in
    let rounded : to_z w32 (of_z w32 r) ≡ halves n =
    to_z-of_z w32 r (record { sfits = c.round.type_inv }) ∙ c.round.ensures ∙ ap halves (number n c.requires) in
    ap nat_abs (to_z-of_z w32 c.clamp.result (record { sfits = c.clamp.type_inv }) ∙ c.clamp.ensures.value ∙ clamped _)
    ∙ ap clip rounded
