-- `pam::checked_header` meets its contract: the header, the size, the raster. Assumes nothing.
use mathlib.Core.Path.{◌≡◌}
use borrow.Author.Rules.{rules}
use Rattle.replies.specs.Replies.{first_reply}
use Rattle.replies.specs.Refusals.{number}
use Rattle.replies.proofs.RefusalLaws.{number_some}
use Rattle.pam.specs.Pam.{size_replies}
use Rattle.pam.proofs.FileLaws.{size_refused, raster_refused, file_accepted}
use Rattle.pam.proofs.checked_header.Goals as goal

pub returns-in_err-checked-clause-number : goal.returns-in_err-checked-clause-number
returns-in_err-checked-clause-number c =
    let h = c.in_ok-header.header in
    let read = rw c.in_ok-header.ensures.ok_part at c.header_of.ensures in
    let e = c.in_err-checked.field-0.0 in
    let told : number e ≡ first_reply (size_replies c.args.file.now) =
    size_refused c.args.file.now h.size h.depth h.raster.now read c.in_err-checked.ensures.number (number_some e) in
    search rules

pub returns-then-header-n-clause-number : goal.returns-then-header-n-clause-number
returns-then-header-n-clause-number c =
    let h = c.in_ok-header.header in
    let read = rw c.in_ok-header.ensures.ok_part at c.header_of.ensures in
    let known = c.in_ok-checked.ensures in
    let n = rw (known.sides.0, known.sides.1) at c.pixels-n.ensures.value in
    raster_refused c.args.file.now h.size h.depth h.raster.now read known.number (rw n at c.if-header-n.true)

pub returns-clause-number : goal.returns-clause-number
returns-clause-number c =
    let h = c.in_ok-header.header in
    let read = rw c.in_ok-header.ensures.ok_part at c.header_of.ensures in
    let known = c.in_ok-checked.ensures in
    let n = rw (known.sides.0, known.sides.1) at c.pixels-n.ensures.value in
    file_accepted c.args.file.now h.size h.depth h.raster.now read known.number (rw n at c.if-header-n.false)
