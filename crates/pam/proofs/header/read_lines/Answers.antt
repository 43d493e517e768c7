-- `pam::header::read_lines` meets its contract, by what a line says. Assumes nothing.
use Rattle.pam.specs.Lines.{lines_of}
use Rattle.pam.proofs.SoFarLaws.{far_begin}
use Rattle.pam.proofs.ReadingLaws.{read_none, read_ignored, read_value, read_second, read_end, read_wrong}
use Rattle.pam.proofs.header.read_lines.Goals as goal

pub loop-line-init : goal.loop-line-init
loop-line-init c = far_begin (lines_of c.args.bytes.now)

pub loop-line-preserved-in-Ignored : goal.loop-line-preserved-in-Ignored
loop-line-preserved-in-Ignored c = read_ignored _ _ _ _ c.loop-line.invariant c.in-Some.ensures.line c.in-Ignored.ensures

pub loop-line-preserved : goal.loop-line-preserved
loop-line-preserved c = read_value _ _ _ _ c.loop-line.invariant c.in-Some.ensures.line _ _ c.in-Value.ensures _ c.in_ok-note-in-Value.ensures

pub returns-in_err-note-in-Value : goal.returns-in_err-note-in-Value
returns-in_err-note-in-Value c =
    rw c.from_residual.ensures (read_second _ _ _ _ c.loop-line.invariant c.in-Some.ensures.line _ _ c.in-Value.ensures _ c.in_err-note-in-Value.ensures)

pub returns-in-End : goal.returns-in-End
returns-in-End c = read_end _ _ _ _ c.loop-line.invariant c.in-Some.ensures.line c.in-End.ensures

pub returns-in-Wrong : goal.returns-in-Wrong
returns-in-Wrong c = read_wrong _ _ _ _ c.loop-line.invariant c.in-Some.ensures.line c.in-Wrong.ensures

pub returns : goal.returns
returns c = read_none _ _ c.loop-line.invariant c.in_default.ensures.line
