-- `quantize::quantize` meets its contract: the drawn picture with the positions of its choices, and the choices finished. Assumes nothing.
use mathlib.Core.Path.{◌≡◌, ◌∙◌, ap, subst}
use Prim.Native.Nat.{ℕ}
use native.Mathlib.Omega.{arith}
use Rattle.std.specs.Prelude.{None}
use Rattle.mixing.specs.Widths.{width_of}
use Rattle.drawing.specs.Drawing.{Drawing}
use Rattle.drawing.specs.Lent.{Lent, lent_by, drawing_of, reduced_bytes, cells_after}
use Rattle.drawing.specs.Positions.{PositionsAfter}
use Rattle.drawing.proofs.FinishedLaws.{finished_lent}
use Rattle.quantize.specs.Quantize.{Commission, commission_by, entries, palette_oklab, ditherer_of, lent_of, quantizing}
use Rattle.quantize.proofs.DrawnLaws.{palette_alike, positions_are, finishable}
use Rattle.quantize.proofs.quantize.Goals as goal

-- the picture that is drawn is the one that is promised
same_picture : (q : Commission) {width : ℕ} {l : Lent} → width ≡ width_of q.shift (entries q) → l ≡ lent_of q (palette_oklab q)
    → drawing_of (ditherer_of q width) None l ≡ quantizing q
same_picture q w e = λ t. drawing_of (ditherer_of q (w t)) None (e t)

-- the origin may be any from which the picture ends in bounds, and the first entries are ready where all are
pub draw-requires : goal.draw-requires
draw-requires c =
    let f = c.requires.0 in
    let count = ap (λ (l : Lent). l.count) c.requires.1 in (
      record {
        wide = f.wide;
        high = f.high;
        few = f.small;
        across = omega (arith, f.wide);
        down = omega (arith, f.high);
        pixels = f.pixels;
        opaque = f.opaque;
        some = λ i h s. omega (arith, f.some, count);
      },
      f.out,
      f.cells,
    )

pub returns : goal.returns
returns c =
    let a = c.args in
    let q = commission_by a.asked.shift a.asked.kind a.asked.width a.asked.height (lent_by a.lent.now) in
    let f = c.requires.0 in
    let same = same_picture q (c.width_of.ensures ∙ ap (λ (l : Lent). width_of q.shift l.count) c.requires.1) c.requires.1 in
    let positions = subst (λ (p : Drawing). PositionsAfter p a.indices.now c.draw.new.indices) same c.draw.ensures.2 in (
      positions (palette_alike q) f.few f.indices ∙ positions_are q,
      c.finish.ensures
          ∙ finished_lent (ditherer_of q (width_of q.shift (entries q))) None (lent_of q (palette_oklab q)) _ c.least_alpha-least.ensures
          _ (c.draw.ensures.0 ∙ ap reduced_bytes same),
      c.draw.ensures.1 ∙ ap (λ (p : Drawing). cells_after p a.cells.now) same,
    )

pub finish-requires : goal.finish-requires
finish-requires c =
    let a = c.args in
    let q = commission_by a.asked.shift a.asked.kind a.asked.width a.asked.height (lent_by a.lent.now) in
    let same = same_picture q (c.width_of.ensures ∙ ap (λ (l : Lent). width_of q.shift l.count) c.requires.1) c.requires.1 in
    finishable q a.indices.now a.out.now a.cells.now c.requires.0 _ (c.draw.ensures.0 ∙ ap reduced_bytes same)
