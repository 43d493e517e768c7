-- `pam::header::header_of` meets its contract: the magic number, the lines, the values. Assumes nothing.
use mathlib.Core.Path.{refl}
use Rattle.pam.proofs.HeadLaws.{magic_told, no_magic, no_lines, header_told}
use Rattle.pam.proofs.header.header_of.Goals as goal

pub returns-in_err-lines : goal.returns-in_err-lines
returns-in_err-lines c =
    rw c.from_residual.ensures (no_magic c.args.file.now (magic_told c.args.file.now _ _ refl c.in_err-lines.ensures.cases))

pub returns-in_err-values : goal.returns-in_err-values
returns-in_err-values c =
    let cases = c.in_ok-lines.ensures.cases in
    rw c.from_residual-in_err-values.ensures
    (no_lines c.args.file.now (magic_told c.args.file.now _ _ refl cases.0) c.in_ok-lines.lines.now cases.1 c.in_err-values.ensures)

pub returns : goal.returns
returns c =
    let cases = c.in_ok-lines.ensures.cases in
    header_told c.args.file.now (magic_told c.args.file.now _ _ refl cases.0) c.in_ok-lines.lines.now cases.1 c.in_ok-values.values c.in_ok-values.raster.now
    c.in_ok-values.ensures c.header_from.result c.header_from.ensures
