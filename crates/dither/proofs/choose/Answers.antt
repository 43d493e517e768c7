-- `dither::choose` meets its contract: the drawing over the candidates is the promised one. Assumes nothing.
use mathlib.Core.Path.{◌≡◌, sym, ◌∙◌, ap, subst}
use mathlib.Core.Bool.{false}
use Prim.Native.Nat.{ℕ, ◌*◌, ◌<◌}
use native.Mathlib.Omega.{arith}
use Rattle.picture.specs.Bounds.{opaque_needed}
use Rattle.drawing.specs.Drawing.{Drawing}
use Rattle.drawing.specs.Lent.{Lent, lent_by, reduced_lent, is_skipped, reduced_bytes, cells_after}
use Rattle.dither.specs.Mode.{commission_by, size, basis_of}
use Rattle.dither.proofs.CandidateLaws.{some_candidate}
use Rattle.dither.proofs.DrawnLaws.{same_picture}
use Rattle.dither.proofs.choose.Goals as goal

-- the origin may be any from which the picture ends in bounds
pub draw-requires : goal.draw-requires
draw-requires c =
    let s = c.args.s in
    let q = commission_by s (lent_by c.args.lent.now) in
    let f = c.requires.0 in
    let e = sym c.requires.1 in (
      record {
        wide = f.wide;
        high = f.high;
        few = f.small;
        across = omega arith;
        down = omega arith;
        pixels = f.pixels;
        opaque = f.opaque ∙ ap (λ (l : Lent). opaque_needed l.reducing (s.width * s.height)) e;
        some =
            subst (λ (l : Lent). (i : ℕ) → i < s.width * s.height → is_skipped s.zero (reduced_lent l i) ≡ false → 0 < l.count) e
            (some_candidate s.zero s.reducing q.reduction (basis_of q) (size q) (λ v. omega (arith, c.args.lent.now.reduces v)));
      },
      f.out_long,
      f.cells_long,
    )

pub returns : goal.returns
returns c =
    let e = same_picture (commission_by c.args.s (lent_by c.args.lent.now)) c.width_of.ensures c.requires.1 in
    (c.draw.ensures.0 ∙ ap reduced_bytes e, c.draw.ensures.1 ∙ ap (λ (p : Drawing). cells_after p c.args.cells.now) e)
