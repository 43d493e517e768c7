-- `drawing::Ditherer::draw` meets its contract, by the kind. Assumes nothing.
use mathlib.Core.Path.{sym, ◌∙◌}
use Rattle.drawing.specs.Lent.{lent_by, drawing_of}
use Rattle.drawing.proofs.TurnLaws.{turn_begin, by_yes, by_no, by_end}
use Rattle.drawing.proofs.StepLaws.{remembers_none}
use Rattle.drawing.proofs.Ditherer.draw.Goals as goal

pub draw_each-requires : goal.draw_each-requires
draw_each-requires c =
    let p = c.requires in
    let d = drawing_of c.args.self c.args.zero (lent_by c.args.lent.now) in
    let e = sym c.is_diffusion.ensures ∙ c.if-is_diffusion.true in
    let m = c.new-memory.ensures in
    (p.0, e, p.1, remembers_none c.args.self _ _ m.0 m.1, turn_begin d _ _ (p.2 e) c.fill.ensures ∙ by_yes d _ e 0)

pub draw_each-requires-else-is_diffusion : goal.draw_each-requires-else-is_diffusion
draw_each-requires-else-is_diffusion c =
    let p = c.requires in
    let e = sym c.is_diffusion.ensures ∙ c.if-is_diffusion.false in
    let m = c.new-memory.ensures in
    (p.0, e, p.1, remembers_none c.args.self _ _ m.0 m.1, by_no (drawing_of c.args.self c.args.zero (lent_by c.args.lent.now)) _ e 0)

pub returns-then-is_diffusion : goal.returns-then-is_diffusion
returns-then-is_diffusion c =
    let d = drawing_of c.args.self c.args.zero (lent_by c.args.lent.now) in
    let k = sym c.is_diffusion.ensures ∙ c.if-is_diffusion.true in
    let e = c.draw_each.ensures in
    (e.0, e.1 ∙ sym (by_yes d _ k _) ∙ by_yes d c.args.cells.now k _ ∙ by_end d c.args.cells.now, e.2)

pub returns-else-is_diffusion : goal.returns-else-is_diffusion
returns-else-is_diffusion c =
    let e = c.draw_each-else-is_diffusion.ensures in
    (e.0, e.1 ∙ by_end (drawing_of c.args.self c.args.zero (lent_by c.args.lent.now)) c.args.cells.now, e.2)
