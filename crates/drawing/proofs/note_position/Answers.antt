-- `drawing::note_position` meets its contract: past the room's end nothing is set. Assumes nothing.
use mathlib.Core.Path.{sym}
use lib.Seq.{set_out}
use Rattle.drawing.proofs.note_position.Goals as goal

pub returns-else-i-indices : goal.returns-else-i-indices
returns-else-i-indices c = sym (set_out _ _ _ c.if-i-indices.false)
