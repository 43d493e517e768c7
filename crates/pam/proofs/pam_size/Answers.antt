-- `pam::pam_size` meets its contract. Assumes nothing.
use mathlib.Core.Path.{sym}
use Rattle.replies.proofs.RefusalLaws.{answered_ok}
use Rattle.pam.specs.Pam.{size_replies, size_of}
use Rattle.pam.proofs.FileLaws.{found}
use Rattle.pam.proofs.pam_size.Goals as goal

pub returns : goal.returns
returns c =
    let file = c.args.file.now in
    let h = c.in_ok-header.header in
    let known = c.in_ok-header.ensures in
    answered_ok (size_replies file) (size_of file) (sym known.number) (found file h.size h.depth h.raster.now known.header known.number).sides
