-- `pam::raster::put_most` meets its contract. The invariant: all pixels up to i are in place, once its alpha is put. Assumes nothing.
use Rattle.pam.proofs.RasterLaws.{Widening}
use Rattle.pam.proofs.raster.put_most.Given as goal

abbrev pub invariant-loop-i : goal.invariant-loop-i
invariant-loop-i l = Widening l.raster l.initial.pixels l.pixels l.i
