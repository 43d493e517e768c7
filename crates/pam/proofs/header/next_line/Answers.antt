-- `pam::header::next_line` meets its contract. Assumes nothing.
use mathlib.Core.Path.{sym, ◌∙◌}
use Prim.Native.Nat.{◌+◌}
use Rattle.pam.proofs.TextLaws.{onward_is}
use Rattle.pam.proofs.LineLaws.{no_line_left, next_line_is}
use Rattle.pam.proofs.header.next_line.Goals as goal

pub returns-in_err-size-clause-line : goal.returns-in_err-size-clause-line
returns-in_err-size-clause-line c = rw c.from_residual.ensures (no_line_left c.args.bytes.now (sym c.newline_in.ensures ∙ c.in_err-size.was))

pub returns-clause-line : goal.returns-clause-line
returns-clause-line c =
    let size = c.in_ok-size.size in
    rw (onward_is (size + 1) c.args.bytes.now) (next_line_is c.args.bytes.now size (sym c.newline_in.ensures ∙ c.in_ok-size.was))
