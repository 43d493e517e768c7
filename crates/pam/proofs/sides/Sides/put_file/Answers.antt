-- `pam::sides::Sides::put_file` meets its contract: the header, and the pixels behind it, fill the buffer. Assumes nothing.
use mathlib.Core.Path.{refl, ◌∙◌}
use native.Mathlib.Omega.{arith}
use Rattle.pam.specs.Pam.{header_text, pam_of}
use Rattle.pam.proofs.PieceLaws.{sets_whole, Begun, begun_more}
use Rattle.pam.proofs.WrittenLaws.{pam_long}
use Rattle.pam.proofs.sides.Sides.put_file.Goals as goal

pub put_header-at-requires : goal.put_header-at-requires
put_header-at-requires c =
    omega (arith, c.requires, pam_long c.args.self.width c.args.self.height c.args.pixels.now)

pub put-requires : goal.put-requires
put-requires c =
    omega (arith, c.requires, pam_long c.args.self.width c.args.self.height c.args.pixels.now, c.put_header-at.ensures.0)

pub returns : goal.returns
unfolding pam_of
returns c =
    let file = c.args.file.now in
    let pixels = c.args.pixels.now in
    let head : Begun file (header_text c.args.self.width c.args.self.height) c.put_header-at.result c.put_header-at.new.file =
    record { end = c.put_header-at.ensures.0; so_far = c.put_header-at.ensures.1 } in
    (begun_more head pixels refl c.put.ensures.1).so_far ∙ sets_whole file (pam_of c.args.self.width c.args.self.height pixels) c.requires
