-- `drawing::Ditherer::color_at` meets its contract: the bracket's pick for an ordered kind, and else the nearest. Assumes nothing.
use mathlib.Core.Path.{sym, ◌∙◌}
use mathlib.Core.Bool.{true, false}
use Rattle.drawing.specs.Drawing.{color_at}
use Rattle.drawing.proofs.StepLaws.{remembers_of}
use Rattle.drawing.proofs.Ditherer.color_at.Goals as goal

pub returns-then-is_ordered : goal.returns-then-is_ordered
unfolding color_at
returns-then-is_ordered c =
    let e = sym c.is_ordered.ensures ∙ c.if-is_ordered.true in
    (rw e c.ordered_color_at.ensures.0, remembers_of c.args.self _ _ true e c.ordered_color_at.ensures.1)

pub returns : goal.returns
unfolding color_at
returns c =
    let e = sym c.is_ordered.ensures ∙ c.if-is_ordered.false in
    (rw e c.nearest_color.ensures.0, remembers_of c.args.self _ _ false e c.nearest_color.ensures.1)
