-- `quantize::quantize_pixels` meets its contract: a refusal is answered before any store, and an acceptance after the work. Assumes nothing.
use mathlib.Core.Path.{◌≡◌, refl, sym, ◌∙◌, ap, subst}
use mathlib.Core.List.{List}
use Prim.Native.Nat.{ℕ, ◌*◌, ◌<◌}
use native.Mathlib.Omega.{arith}
use lib.Ieee.{Float}
use lib.ListN.{length, get_or, take, length-take}
use Rattle.std.proofs.lemmas.Result.{err_from_is_err_and}
use Rattle.replies.proofs.RefusalLaws.{answered_ok, answered_err, number_some}
use Rattle.replies.proofs.ReplyLaws.{after_refused}
use Rattle.color.specs.Color.{reduced_at}
use Rattle.conversion.specs.Lists.{list_oklab, oklab_over}
use Rattle.conversion.proofs.ListLaws.{list_front}
use Rattle.shortlist.specs.Candidates.{RangedList}
use Rattle.drawing.specs.Lent.{Lent, lent, cells_after}
use Rattle.drawing.proofs.CandidateLaws.{list_fit}
use Rattle.quantize.specs.Quantize.{Commission, commission, commission_by, entries, palette_oklab, lent_of, quantizing, indices_of, pixels_of, lengths_of, replies}
use Rattle.quantize.specs.Steps.{Fitting}
use Rattle.quantize.proofs.FittingLaws.{accepted}
use Rattle.quantize.proofs.quantize_pixels.Goals as goal

-- a refusal leaves the buffers
pub returns-in_err-check : goal.returns-in_err-check
returns-in_err-check c =
    let a = c.args in
    let q = commission a.shift a.reducing a.kind a.width a.height a.reduction.now a.scale.now a.palette.now a.pixels.now a.opaque.now in
    let p = err_from_is_err_and c.from_residual.result c.from_residual.ensures.1 in
    rw (p.1, p.2) (record {
      answer = answered_err (replies q a.indices.now a.out.now a.cells.now) tt c.in_err-check.ensures;
      index_buffer = after_refused _ _ _ (number_some _);
      picture = after_refused _ _ _ (number_some _);
      cell_buffer = after_refused _ _ _ (number_some _);
    })

pub unwrap-reduction-requires : goal.unwrap-reduction-requires
unwrap-reduction-requires c =
    let a = c.args in
    let q = commission a.shift a.reducing a.kind a.width a.height a.reduction.now a.scale.now a.palette.now a.pixels.now a.opaque.now in
    c.try_into.ensures.0 (accepted q (lengths_of q a.indices.now a.out.now a.cells.now) (sym c.in_ok-check.ensures)).reduction

pub unwrap-scale-requires : goal.unwrap-scale-requires
unwrap-scale-requires c =
    let a = c.args in
    let q = commission a.shift a.reducing a.kind a.width a.height a.reduction.now a.scale.now a.palette.now a.pixels.now a.opaque.now in
    c.try_into-2.ensures.0 (accepted q (lengths_of q a.indices.now a.out.now a.cells.now) (sym c.in_ok-check.ensures)).scale

pub put_list_oklab-requires : goal.put_list_oklab-requires
put_list_oklab-requires c =
    let a = c.args in
    let q = commission a.shift a.reducing a.kind a.width a.height a.reduction.now a.scale.now a.palette.now a.pixels.now a.opaque.now in
    let f = accepted q (lengths_of q a.indices.now a.out.now a.cells.now) (sym c.in_ok-check.ensures) in
    (omega arith, omega (arith, f.few))

pub slice_bounds-room-end : goal.slice_bounds-room-end
slice_bounds-room-end c =
    let a = c.args in
    let q = commission a.shift a.reducing a.kind a.width a.height a.reduction.now a.scale.now a.palette.now a.pixels.now a.opaque.now in
    let f = accepted q (lengths_of q a.indices.now a.out.now a.cells.now) (sym c.in_ok-check.ensures) in
    omega (arith, f.few, c.put_list_oklab.auto.oklab)

pub slice_bounds-new-end : goal.slice_bounds-new-end
slice_bounds-new-end c =
    let a = c.args in
    let q = commission a.shift a.reducing a.kind a.width a.height a.reduction.now a.scale.now a.palette.now a.pixels.now a.opaque.now in
    let f = accepted q (lengths_of q a.indices.now a.out.now a.cells.now) (sym c.in_ok-check.ensures) in
    simp length-take (omega (arith, f.few, c.put_list_oklab.auto.oklab))

-- ---- what is lent to the drawing is the picture's own, the palette with its Oklab colours as the candidates
module _ (q : Commission) {reduction scale : List ℕ} (room : List Float) (table : reduction ≡ q.reduction) (scales : scale ≡ q.scale) where
  -- the room's front
  front : (was : List Float) → room ≡ oklab_over scale (reduced_at q.palette) (entries q) was → take (3 * entries q) room ≡ palette_oklab q
  front was put =
      ap (take (3 * entries q)) put ∙ list_front scale (reduced_at q.palette) (entries q) was
      ∙ ap (λ (s : List ℕ). list_oklab s (reduced_at q.palette) (entries q)) scales

  module _ (put : take (3 * entries q) room ≡ palette_oklab q) where
    in_range : ((k : ℕ) → get_or q.scale k 0 < 256) → RangedList (take (3 * entries q) room) (entries q)
    in_range bytes = rw put (list_fit q.scale (reduced_at q.palette) (entries q) bytes)

    own : {l : Lent} → l ≡ lent q.reducing reduction scale q.pixels q.opaque q.palette (take (3 * entries q) room) (entries q)
        → l ≡ lent_of q (palette_oklab q)
    own e = e ∙ (λ t. lent q.reducing (table t) (scales t) q.pixels q.opaque q.palette (put t) (entries q))

-- the first entries are in range where all are
pub new-lent-requires : goal.new-lent-requires
new-lent-requires c =
    let a = c.args in
    let q = commission a.shift a.reducing a.kind a.width a.height a.reduction.now a.scale.now a.palette.now a.pixels.now a.opaque.now in
    let f = accepted q (lengths_of q a.indices.now a.out.now a.cells.now) (sym c.in_ok-check.ensures) in
    let table = rw c.unwrap-reduction.ensures at c.try_into.ensures.1 in
    let scales = rw c.unwrap-scale.ensures at c.try_into-2.ensures.1 in
    let r = in_range q _ table.same scales.same (front q _ table.same scales.same _ c.put_list_oklab.ensures) (λ k. omega (arith, c.type_inv.scale k)) in (
      omega (arith, f.some),
      record { long = omega (arith, r.long, f.some); range = λ k K. r.range k (omega (arith, f.some)) },
      λ v. rw table.same (omega (arith, c.type_inv.reduction v)),
      λ v. rw scales.same (omega (arith, c.type_inv.scale v)),
    )

pub quantize-requires : goal.quantize-requires
quantize-requires c =
    let a = c.args in
    let q = commission a.shift a.reducing a.kind a.width a.height a.reduction.now a.scale.now a.palette.now a.pixels.now a.opaque.now in
    let f = accepted q (lengths_of q a.indices.now a.out.now a.cells.now) (sym c.in_ok-check.ensures) in
    let table = rw c.unwrap-reduction.ensures at c.try_into.ensures.1 in
    let scales = rw c.unwrap-scale.ensures at c.try_into-2.ensures.1 in
    let e = own q _ table.same scales.same (front q _ table.same scales.same _ c.put_list_oklab.ensures) c.new-lent.ensures in
    subst (λ (l : Lent).
    let q = commission_by a.shift a.kind a.width a.height l in
    Fitting q (lengths_of q a.indices.now a.out.now a.cells.now) × (l ≡ lent_of q (palette_oklab q))) (sym e) (f, refl)

-- an acceptance leaves the work
pub returns : goal.returns
returns c =
    let a = c.args in
    let q = commission a.shift a.reducing a.kind a.width a.height a.reduction.now a.scale.now a.palette.now a.pixels.now a.opaque.now in
    let table = rw c.unwrap-reduction.ensures at c.try_into.ensures.1 in
    let scales = rw c.unwrap-scale.ensures at c.try_into-2.ensures.1 in
    let e = own q _ table.same scales.same (front q _ table.same scales.same _ c.put_list_oklab.ensures) c.new-lent.ensures in
    let done = subst (λ (l : Lent).
    let q = commission_by a.shift a.kind a.width a.height l in
    (c.quantize.new.indices ≡ indices_of q) × (c.quantize.new.out ≡ pixels_of q) × (c.quantize.new.cells ≡ cells_after (quantizing q) a.cells.now))
    e c.quantize.ensures in
    record {
      answer = answered_ok (replies q a.indices.now a.out.now a.cells.now) tt (sym c.in_ok-check.ensures) refl;
      index_buffer = done.0;
      picture = done.1;
      cell_buffer = done.2;
    }
