-- `pam::raster::put_most` meets its contract. Assumes nothing.
use native.Mathlib.Omega.{arith}
use mathlib.Core.Path.{ap, ◌∙◌}
use Prim.Native.Nat.{◌*◌}
use lib.ListN.{length}
use lib.Seq.{length-sets}
use Rattle.pam.specs.Reading.{samples_at}
use Rattle.pam.proofs.RasterLaws.{widen_begin, widen_more}
use Rattle.pam.proofs.raster.put_most.Goals as goal

pub loop-i-init : goal.loop-i-init
loop-i-init c = widen_begin c.args.raster.now c.args.pixels.now _ (omega arith) c.put_samples.ensures

pub loop-i-preserved : goal.loop-i-preserved
loop-i-preserved c =
    let a = c.args in
    let first = ap length c.put_samples.ensures ∙ length-sets a.pixels.now (4 * 0) (samples_at a.raster.now 0) in
    widen_more a.raster.now _ c.loop-i.pixels _ c.loop-i.i c.loop-i.invariant (omega (arith, first)) c.put_next.ensures
