-- `pam::raster::put_pixels` meets its contract: a raster of four samples a pixel is its pixels. Assumes nothing.
use mathlib.Core.Path.{◌≡◌, sym, ap, ◌∙◌}
use Prim.Native.Nat.{ℕ, ◌*◌, ◌/◌}
use native.Mathlib.Omega.{arith}
use lib.ListN.{length}
use Rattle.lists.specs.Gather.{gather}
use Rattle.pam.specs.Pam.{pixel_at}
use Rattle.pam.proofs.RasterLaws.{four_samples}
use Rattle.pam.proofs.raster.put_pixels.Goals as goal

pub returns : goal.returns
returns c =
    let a = c.args in
    let n = length a.pixels.now / 4 in
    let d : a.depth ≡ 4 = omega (arith, c.requires.1, c.requires.2, c.if-depth-eq3.false) in
    let long : length a.raster.now ≡ 4 * n = c.requires.3 ∙ ap (λ (d : ℕ). d * n) d in
    c.copy.ensures
    ∙ four_samples n a.raster.now long
    ∙ ap (λ (d : ℕ). gather n (pixel_at d a.raster.now)) (sym d)
