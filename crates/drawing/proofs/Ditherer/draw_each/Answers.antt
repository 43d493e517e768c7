-- The answers for `Ditherer::draw_each`: its contract follows from its invariants.
use mathlib.Core.Path.{◌≡◌, ◌∙◌, ap}
use Prim.Native.Nat.{◌*◌}
use native.Mathlib.Omega.{arith}
use Rattle.lists.proofs.FillLaws.{fill_begin}
use Rattle.drawing.specs.Lent.{lent_by, drawing_of}
use Rattle.drawing.specs.Turns.{cells_by}
use Rattle.drawing.proofs.OutputLaws.{out_more, out_all}
use Rattle.drawing.proofs.PositionLaws.{note_begin, note_more, note_done}
use Rattle.drawing.proofs.TurnLaws.{by_again, by_more}
use Rattle.drawing.proofs.Ditherer.draw_each.Goals as goal

pub loop-i-init : goal.loop-i-init
loop-i-init g c = let p = c.requires in (fill_begin 4 _ _, p.3, p.4, note_begin _ _)

pub pixel_color-c-requires : goal.pixel_color-c-requires
pixel_color-c-requires g c =
    let p = c.requires in
    let inv = c.loop-i.invariant in
    (p.0, p.1, c.loop-i-test.true, inv.1, by_again _ _ _ _ inv.2)

pub loop-i-preserved : goal.loop-i-preserved
loop-i-preserved g c =
    let chosen = c.pixel_color-c.ensures in
    let inv = c.loop-i.invariant in (
      out_more _ _ _ _ c.requires.2 inv.0 _ _ c.loop-i-test.true chosen.0.color c.put_rgba.ensures,
      chosen.1,
      by_more _ _ _ _ inv.2 _ _ chosen.2,
      note_more _ _ _ _ inv.3 _ _ c.loop-i-test.true chosen.0 c.note_position.ensures,
    )

pub returns : goal.returns
returns g c =
    let l = c.loop-i in
    let a = c.args in
    let p = c.requires in
    let past = c.loop-i-test.false in
    let e : l.i ≡ a.self.width * a.self.height = omega (arith, l.invariant.0.within, p.2, past) in (
      out_all _ _ _ _ p.2 l.invariant.0 past,
      l.invariant.2 ∙ ap (cells_by (drawing_of a.self a.zero (lent_by a.lent.now)) a.cells.now) e,
      note_done _ _ _ _ l.invariant.3 e,
    )
