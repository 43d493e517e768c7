-- `pam::raster::put_all_opaque` meets its contract: no pixel, one, or all but the last, an alpha, and the last. Assumes nothing.
use native.Mathlib.Omega.{arith}
use Rattle.pam.proofs.RasterLaws.{no_pixel, one_pixel, widen_all}
use Rattle.pam.proofs.raster.put_all_opaque.Goals as goal

pub returns-in-0 : goal.returns-in-0
returns-in-0 c = no_pixel c.args.raster.now c.args.pixels.now c.args.n c.in-0.is c.requires.2

pub returns-in-1 : goal.returns-in-1
returns-in-1 c = one_pixel c.args.raster.now c.args.pixels.now _ c.args.n c.in-1.is c.requires.2 c.put_opaque.ensures

pub returns-in_default : goal.returns-in_default
returns-in_default c =
    widen_all c.args.raster.now c.put_most.new.pixels _ _ c.args.n (omega arith) (omega arith)
    c.put_most.ensures c.put_alpha.ensures c.put_opaque-in_default.ensures
