-- `drawing::finish` meets its contract. The invariant: the first i pixels have their full precision form. Assumes nothing.
use Rattle.lists.proofs.FillLaws.{Filling}
use Rattle.color.specs.Tables.{normalize_color}
use Rattle.picture.specs.Pixels.{seen_from}
use Rattle.drawing.proofs.FinishLaws.{piece}
use Rattle.drawing.proofs.finish.Given as goal

abbrev pub invariant-loop-i : goal.invariant-loop-i
invariant-loop-i l = Filling 4 (piece (normalize_color l.scale) (seen_from l.least l.pixels) l.initial.out) l.initial.out l.out l.i
