-- `drawing::Ditherer::draw_each` meets its contract. The invariant: the first i pixels are in place and their positions noted, what is remembered is right,
-- and the cells are those of pixel i's turn. Assumes nothing.
use mathlib.Core.Path.{◌≡◌}
use Rattle.lists.proofs.FillLaws.{Filling}
use Rattle.drawing.specs.Lent.{lent_by, candidates_lent, drawing_of, pixel_bytes}
use Rattle.drawing.specs.Turns.{Remembers, cells_by}
use Rattle.drawing.proofs.PositionLaws.{Noting}
use Rattle.drawing.proofs.Ditherer.draw_each.Given as goal

abbrev pub invariant-loop-i : goal.invariant-loop-i
invariant-loop-i g l =
    Filling 4 (pixel_bytes (drawing_of l.self l.zero (lent_by l.lent))) l.initial.out l.out l.i
    × Remembers l.self (candidates_lent (lent_by l.lent)) l.memory
    × (l.cells ≡ cells_by (drawing_of l.self l.zero (lent_by l.lent)) l.initial.cells l.i)
    × Noting (drawing_of l.self l.zero (lent_by l.lent)) l.initial.indices l.indices l.i
