-- `pam::write_pam` meets its contract: what `put_file` asks for follows from what was tested. Assumes nothing.
use mathlib.Core.Path.{sym}
use native.Mathlib.Omega.{arith}
use lib.ListN.{length}
use Rattle.pam.specs.Pam.{pam_length}
use Rattle.pam.proofs.AcceptedLaws.{buffers_fit}
use Rattle.pam.proofs.WrittenLaws.{pam_long}
use Rattle.pam.proofs.write_pam.Goals as goal

pub put_file-requires : goal.put_file-requires
unfolding pam_length
put_file-requires c =
    let a = c.args in
    let s = c.in_ok-sides.sides in
    let fit = buffers_fit s.width s.height (length a.pixels.now) (length a.file.now) (sym c.if-lengths_wrong.ensures) in
    omega (arith, fit.0, fit.1, pam_long s.width s.height a.pixels.now)
