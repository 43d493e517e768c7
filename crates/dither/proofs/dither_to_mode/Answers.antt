-- `dither::dither_to_mode` meets its contract: a check refuses before any store, the candidates are too many, or the picture is dithered.
-- Assumes nothing.
use mathlib.Core.Path.{◌≡◌, refl, sym, ap, ◌∙◌, subst}
use mathlib.Core.List.{List}
use Prim.Native.Nat.{ℕ, ◌*◌, ◌≤◌}
use native.Mathlib.Omega.{arith}
use lib.Ieee.{Float}
use lib.ListN.{length, take, length-take}
use Rattle.std.specs.Prelude.{Option, None, Result, Err}
use Rattle.std.specs.Prelude.{ok_or}
use Rattle.std.proofs.lemmas.Result.{err_from_is_err_and}
use Rattle.replies.specs.declared.Refusal.{Refusal}
use Rattle.replies.specs.declared.Refusal.TheVariants.{TooManyCandidates}
use Rattle.picture.specs.Pixels.{reduced_by}
use Rattle.picture.proofs.BoundLaws.{basis_long}
use Rattle.candidates.specs.Candidates.{candidates_of}
use Rattle.candidates.specs.Rooms.{Collects}
use Rattle.candidates.proofs.RoomLaws.{count_within}
use Rattle.drawing.specs.Lent.{Lent, lent}
use Rattle.dither.specs.Mode.{Commission, commission, commission_by, buffers, size, basis_of, candidate_list, lent_to}
use Rattle.dither.specs.Steps.{Fitting, Roomed, Completes}
use Rattle.dither.proofs.NumberLaws.{accepted, room}
use Rattle.dither.proofs.CandidateLaws.{collected, uncollected, roomed}
use Rattle.dither.proofs.CallLaws.{call_refused, call_full, call_completed}
use Rattle.dither.proofs.DrawnLaws.{front_ranged}
use Rattle.dither.proofs.dither_to_mode.Goals as goal

-- ---- a refusal
pub returns-in_err-check : goal.returns-in_err-check
returns-in_err-check c =
    let a = c.args in
    let q = commission a.settings a.reduction.now a.scale.now a.pixels.now a.opaque.now in
    let p = err_from_is_err_and c.from_residual.result c.from_residual.ensures.1 in
    rw (p.1, p.2) (call_refused q (buffers a.places.now a.oklab.now a.out.now a.cells.now) c.in_err-check.ensures)

-- ---- past the checks all fits
pub unwrap-reduction-requires : goal.unwrap-reduction-requires
unwrap-reduction-requires c =
    let a = c.args in
    let q = commission a.settings a.reduction.now a.scale.now a.pixels.now a.opaque.now in
    c.try_into.ensures.0 (accepted q (buffers a.places.now a.oklab.now a.out.now a.cells.now) (sym c.in_ok-check.ensures)).reduction

pub unwrap-scale-requires : goal.unwrap-scale-requires
unwrap-scale-requires c =
    let a = c.args in
    let q = commission a.settings a.reduction.now a.scale.now a.pixels.now a.opaque.now in
    c.try_into-2.ensures.0 (accepted q (buffers a.places.now a.oklab.now a.out.now a.cells.now) (sym c.in_ok-check.ensures)).scale

pub collect_candidates-collected-requires-clause-pixels : goal.collect_candidates-collected-requires-clause-pixels
collect_candidates-collected-requires-clause-pixels c =
    let a = c.args in
    let q = commission a.settings a.reduction.now a.scale.now a.pixels.now a.opaque.now in
    let w = accepted q (buffers a.places.now a.oklab.now a.out.now a.cells.now) (sym c.in_ok-check.ensures) in
    omega (arith, ap length c.basis-basis.ensures ∙ basis_long q.settings.reducing q.pixels q.opaque (size q) w.pixels w.opaque)

pub collect_candidates-collected-requires-clause-oklab : goal.collect_candidates-collected-requires-clause-oklab
collect_candidates-collected-requires-clause-oklab c =
    let a = c.args in
    let q = commission a.settings a.reduction.now a.scale.now a.pixels.now a.opaque.now in
    omega (arith, (room q (buffers a.places.now a.oklab.now a.out.now a.cells.now) (sym c.in_ok-check.ensures)).1)

-- ---- what is collected of the pixels that reduce, through the tables as arrays, is the picture's
gathered : (q : Commission) {reduction scale pixels : List ℕ} → reduction ≡ q.reduction → scale ≡ q.scale → pixels ≡ basis_of q
    → {was now : List ℕ} {oklab oklab' : List Float} {r : Option ℕ}
    → Collects (candidates_of (reduced_by q.settings.reducing reduction pixels) (size q)) scale was oklab r now oklab'
    → Collects (candidate_list q) q.scale was oklab r now oklab'
gathered q table scales they_are of_these = rw (table, scales, they_are) at of_these

refused_with : (r : Option ℕ) (e : Refusal) → ◌≡◌ {A = Result ℕ Refusal} (Err e) (ok_or r TooManyCandidates) → r ≡ None → e ≡ TooManyCandidates
refused_with r e value none = let same : ◌≡◌ {A = Result ℕ Refusal} (Err e) (Err TooManyCandidates) = value ∙ ap (λ (r : Option ℕ). ok_or r TooManyCandidates) none in cc

pub returns-in_err-count : goal.returns-in_err-count
returns-in_err-count c =
    let a = c.args in
    let q = commission a.settings a.reduction.now a.scale.now a.pixels.now a.opaque.now in
    let table = rw c.unwrap-reduction.ensures at c.try_into.ensures.1 in
    let scales = rw c.unwrap-scale.ensures at c.try_into-2.ensures.1 in
    let k = gathered q table.same scales.same c.basis-basis.ensures c.collect_candidates-collected.ensures in
    let u = uncollected k c.in_err-count.ensures.ok_part in
    let p = err_from_is_err_and c.from_residual-in_err-count.result c.from_residual-in_err-count.ensures.1 in
    rw (p.1, p.2, refused_with _ _ c.in_err-count.ensures.value c.in_err-count.ensures.ok_part)
    (call_full q (buffers a.places.now a.oklab.now a.out.now a.cells.now) (sym c.in_ok-check.ensures) u.0 u.1 u.2)

-- ---- the rooms' fronts are the candidates
own : (q : Commission) {reduction scale : List ℕ} → reduction ≡ q.reduction → scale ≡ q.scale → {places : List ℕ} {oklab : List Float} {count : ℕ}
    → Roomed q places oklab count → {l : Lent}
    → l ≡ lent q.settings.reducing reduction scale q.pixels q.opaque (take (4 * count) places) (take (3 * count) oklab) count
    → l ≡ lent_to q
own q table scales r e = e ∙ (λ t. lent q.settings.reducing (table t) (scales t) q.pixels q.opaque (r.colors t) (r.converted t) (r.counted t))

pub overflow_mul-count : goal.overflow_mul-count
overflow_mul-count c =
    let a = c.args in
    let q = commission a.settings a.reduction.now a.scale.now a.pixels.now a.opaque.now in
    let free = sym c.in_ok-check.ensures in
    let b = buffers a.places.now a.oklab.now a.out.now a.cells.now in
    let table = rw c.unwrap-reduction.ensures at c.try_into.ensures.1 in
    let scales = rw c.unwrap-scale.ensures at c.try_into-2.ensures.1 in
    let k = gathered q table.same scales.same c.basis-basis.ensures c.collect_candidates-collected.ensures in
    let r = roomed q k c.in_ok-count.ensures.ok_part (room q b free).1 in
    record { fits = omega (arith, r.bytes, (room q b free).0) }

pub slice_bounds-new-end : goal.slice_bounds-new-end
slice_bounds-new-end c =
    let a = c.args in
    let q = commission a.settings a.reduction.now a.scale.now a.pixels.now a.opaque.now in
    let free = sym c.in_ok-check.ensures in
    let b = buffers a.places.now a.oklab.now a.out.now a.cells.now in
    let table = rw c.unwrap-reduction.ensures at c.try_into.ensures.1 in
    let scales = rw c.unwrap-scale.ensures at c.try_into-2.ensures.1 in
    let k = gathered q table.same scales.same c.basis-basis.ensures c.collect_candidates-collected.ensures in
    let r = roomed q k c.in_ok-count.ensures.ok_part (room q b free).1 in
    r.bytes

pub slice_bounds-new-end-2 : goal.slice_bounds-new-end-2
slice_bounds-new-end-2 c =
    let a = c.args in
    let q = commission a.settings a.reduction.now a.scale.now a.pixels.now a.opaque.now in
    let free = sym c.in_ok-check.ensures in
    let b = buffers a.places.now a.oklab.now a.out.now a.cells.now in
    let table = rw c.unwrap-reduction.ensures at c.try_into.ensures.1 in
    let scales = rw c.unwrap-scale.ensures at c.try_into-2.ensures.1 in
    let k = gathered q table.same scales.same c.basis-basis.ensures c.collect_candidates-collected.ensures in
    let r = roomed q k c.in_ok-count.ensures.ok_part (room q b free).1 in
    simp length-take (omega (arith, r.bytes))

pub overflow_mul-count-2 : goal.overflow_mul-count-2
overflow_mul-count-2 c =
    let a = c.args in
    let q = commission a.settings a.reduction.now a.scale.now a.pixels.now a.opaque.now in
    let free = sym c.in_ok-check.ensures in
    let b = buffers a.places.now a.oklab.now a.out.now a.cells.now in
    let table = rw c.unwrap-reduction.ensures at c.try_into.ensures.1 in
    let scales = rw c.unwrap-scale.ensures at c.try_into-2.ensures.1 in
    let k = gathered q table.same scales.same c.basis-basis.ensures c.collect_candidates-collected.ensures in
    let r = roomed q k c.in_ok-count.ensures.ok_part (room q b free).1 in
    record { fits = omega (arith, r.bytes, (room q b free).0) }

pub slice_bounds-new-end-3 : goal.slice_bounds-new-end-3
slice_bounds-new-end-3 c =
    let a = c.args in
    let q = commission a.settings a.reduction.now a.scale.now a.pixels.now a.opaque.now in
    let free = sym c.in_ok-check.ensures in
    let b = buffers a.places.now a.oklab.now a.out.now a.cells.now in
    let table = rw c.unwrap-reduction.ensures at c.try_into.ensures.1 in
    let scales = rw c.unwrap-scale.ensures at c.try_into-2.ensures.1 in
    let k = gathered q table.same scales.same c.basis-basis.ensures c.collect_candidates-collected.ensures in
    let r = roomed q k c.in_ok-count.ensures.ok_part (room q b free).1 in
    r.floats

pub slice_bounds-new-end-4 : goal.slice_bounds-new-end-4
slice_bounds-new-end-4 c =
    let a = c.args in
    let q = commission a.settings a.reduction.now a.scale.now a.pixels.now a.opaque.now in
    let free = sym c.in_ok-check.ensures in
    let b = buffers a.places.now a.oklab.now a.out.now a.cells.now in
    let table = rw c.unwrap-reduction.ensures at c.try_into.ensures.1 in
    let scales = rw c.unwrap-scale.ensures at c.try_into-2.ensures.1 in
    let k = gathered q table.same scales.same c.basis-basis.ensures c.collect_candidates-collected.ensures in
    let r = roomed q k c.in_ok-count.ensures.ok_part (room q b free).1 in
    simp length-take (omega (arith, r.floats))

pub new-lent-requires : goal.new-lent-requires
new-lent-requires c =
    let a = c.args in
    let q = commission a.settings a.reduction.now a.scale.now a.pixels.now a.opaque.now in
    let free = sym c.in_ok-check.ensures in
    let b = buffers a.places.now a.oklab.now a.out.now a.cells.now in
    let table = rw c.unwrap-reduction.ensures at c.try_into.ensures.1 in
    let scales = rw c.unwrap-scale.ensures at c.try_into-2.ensures.1 in
    let k = gathered q table.same scales.same c.basis-basis.ensures c.collect_candidates-collected.ensures in
    let r = roomed q k c.in_ok-count.ensures.ok_part (room q b free).1 in (
      simp length-take (omega (arith, r.bytes)),
      front_ranged q r (λ v. omega (arith, c.type_inv.scale v)),
      λ v. rw table.same (omega (arith, c.type_inv.reduction v)),
      λ v. rw scales.same (omega (arith, c.type_inv.scale v)),
    )

pub dither-requires : goal.dither-requires
dither-requires c =
    let a = c.args in
    let q = commission a.settings a.reduction.now a.scale.now a.pixels.now a.opaque.now in
    let free = sym c.in_ok-check.ensures in
    let b = buffers a.places.now a.oklab.now a.out.now a.cells.now in
    let table = rw c.unwrap-reduction.ensures at c.try_into.ensures.1 in
    let scales = rw c.unwrap-scale.ensures at c.try_into-2.ensures.1 in
    let k = gathered q table.same scales.same c.basis-basis.ensures c.collect_candidates-collected.ensures in
    let r = roomed q k c.in_ok-count.ensures.ok_part (room q b free).1 in
    let few : length (candidate_list q) ≤ 65536 =
    omega (arith, (room q b free).0, r.counted, count_within {cs = candidate_list q} k c.in_ok-count.ensures.ok_part) in
    subst (λ (l : Lent).
    let q = commission_by a.settings l in
    Fitting q a.out.now a.cells.now × (l ≡ lent_to q) × (length (candidate_list q) ≤ 65536))
    (sym (own q table.same scales.same r c.new-lent.ensures)) (accepted q b free, refl, few)

pub returns : goal.returns
returns c =
    let a = c.args in
    let q = commission a.settings a.reduction.now a.scale.now a.pixels.now a.opaque.now in
    let free = sym c.in_ok-check.ensures in
    let b = buffers a.places.now a.oklab.now a.out.now a.cells.now in
    let table = rw c.unwrap-reduction.ensures at c.try_into.ensures.1 in
    let scales = rw c.unwrap-scale.ensures at c.try_into-2.ensures.1 in
    let k = gathered q table.same scales.same c.basis-basis.ensures c.collect_candidates-collected.ensures in
    let r = roomed q k c.in_ok-count.ensures.ok_part (room q b free).1 in
    let u = collected k _ c.in_ok-count.ensures.ok_part in
    let done = subst (λ (l : Lent). Completes (commission_by a.settings l) a.out.now a.cells.now c.dither.result c.dither.new.out c.dither.new.cells)
    (own q table.same scales.same r c.new-lent.ensures) c.dither.ensures in
    call_completed q b free u.0 u.2 u.3 done
