-- `pam::header::read_lines` meets its contract: what is known at its loop is `SoFar`. Assumes nothing.
use lib.ListN.{length}
use Rattle.pam.specs.Lines.{lines_of}
use Rattle.pam.proofs.SoFarLaws.{SoFar}
use Rattle.pam.proofs.header.read_lines.Given as goal

abbrev pub invariant-loop-line : goal.invariant-loop-line
invariant-loop-line l = SoFar (lines_of l.bytes) (lines_of l.rest) l.values

abbrev pub decreases-loop-line : goal.decreases-loop-line
decreases-loop-line l = length l.rest
