-- The sends of one pixel, into f32 cells that are sixteenths: they leave the sixteenths that the whole sends leave. Where the cells have room for what
-- the pixel sends, every sum on the way is exact. Assumes nothing.
use mathlib.Core.Path.{◌≡◌, refl, sym, ap, ◌∙◌, subst}
use borrow.Author.Tests.{eq-eqb}
use mathlib.Core.Bool.{Bool, true, false, cond}
use mathlib.Core.List.{List, [], ◌∷◌, map}
use Prim.Native.Nat.{ℕ, ◌+◌, ◌*◌, ◌≤◌, ◌<◌, zero-le}
use native.Mathlib.Nat.{le_refl, le_trans}
use native.Mathlib.Omega.{arith}
use lib.Dec.{T, eqb, ltb, ltb→lt, lit≤, lit<}
use lib.IntN.{ℤ, pos, nat_abs, ◌*ℤ◌}
use lib.ListN.{length, get_or, length-map}
use lib.Ieee.{Float, binary32, mul}
use lib.Ieee.Fits.{and_l, and_r}
use Rattle.floats.specs.Over.{wholef, sixteenths}
use Rattle.floats.specs.Cells.{Cells}
use Rattle.floats.proofs.Int.{sum_size, sum_bound, product_bound}
use Rattle.floats.proofs.Cells.{cells_send}
use Rattle.patterns.specs.declared.Target.{Target}
use Rattle.patterns.specs.Kernel.{Place, pixel, outside, landing, weighted}
use Rattle.diffusion.specs.Diffusion.{is_at, weight_to}
use Rattle.diffusion.specs.Scatter.{more, send, sends}
use Rattle.diffusion.specs.Sends.{Room}
use Rattle.diffusion.proofs.Channels.{by_pixel}
use Rattle.diffusion.proofs.Landings.{landing-inside}
use Rattle.diffusion.proofs.Scatter.{more_at, more-length, send_at, send-length}
use Rattle.float_cells.specs.Arithmetic.{ratio_f}
use Rattle.float_cells.specs.Scan.{more_f, send_f, diffuse_f}
use Rattle.float_cells.proofs.Arithmetic.{ratio_is}

-- ---- one cell
-- the float x is the whole residual r
pub record Residual (r : ℤ) (x : Float) : Type 0 where
  pub is : x ≡ wholef r
  pub small : nat_abs r ≤ 255

-- the cells hold the new sixteenths, which are larger by at most 255 times 16
one_more : {r : ℤ} {x v : Float} {w : ℕ} → Residual r x → v ≡ sixteenths (pos w) → 0 < w → w ≤ 16 → (k at : ℕ) (xs : List Float) (zs : List ℤ)
    → k ≤ 65536 → at < length zs → Cells k xs zs → Cells (k + 4080) (more_f xs at (mul binary32 x v)) (more zs at (r *ℤ pos w))
unfolding more_f more
one_more {r} {x} {v} {w} R W some most k at xs zs K l c = record {
  is =
      cells_send xs zs at x v r w (record { is = c.is; small = λ i b. le_trans (c.small i b) K })
      (subst (λ (n : ℕ). at < n) (sym (ap length c.is ∙ length-map zs sixteenths)) l) R.is R.small W some most;
  small = λ i b.
      let inside : i < length zs = subst (λ (n : ℕ). i < n) (more-length zs at (r *ℤ pos w)) b in
      subst (λ (z : ℤ). nat_abs z ≤ k + 4080) (sym (more_at zs at (r *ℤ pos w) i inside))
      (sum_bound (get_or zs i (pos 0)) (cond (eqb at i) (r *ℤ pos w) (pos 0)) k 4080 (c.small i inside) (part (eqb at i)));
}
  where
    part : (b : Bool) → nat_abs (cond b (r *ℤ pos w) (pos 0)) ≤ 4080
    part true = product_bound r (pos w) 255 16 R.small most
    part false = zero-le

-- ---- one target, and all of a kernel's
module _ (rs : ℕ → ℤ) (xs : ℕ → Float) (R : (a : ℕ) → a < 3 → Residual (rs a) (xs a)) where
  -- three cells of a pixel
  three_more : {v : Float} {w : ℕ} → v ≡ sixteenths (pos w) → 0 < w → w ≤ 16 → (zs : List ℤ) (i : ℕ) → 3 * i + 2 < length zs
      → ((q : ℕ) → q < length zs → nat_abs (get_or zs q (pos 0)) ≤ 4080)
      → send_f (map sixteenths zs) xs (pixel i) v ≡ map sixteenths (send zs rs (pixel i) w)
  unfolding send_f send
  three_more {v} {w} W some most zs i l small =
      let red = one_more (R 0 (lit< tt)) W some most 4080 (3 * i) (map sixteenths zs) zs (lit≤ tt) (omega arith) (record { is = refl; small = small }) in
      let once : List ℤ = more zs (3 * i) (rs 0 *ℤ pos w) in
      let green = one_more (R 1 (lit< tt)) W some most 8160 (3 * i + 1) _ once (lit≤ tt) (omega (arith, more-length zs (3 * i) (rs 0 *ℤ pos w))) red in
      let twice : List ℤ = more once (3 * i + 1) (rs 1 *ℤ pos w) in
      (one_more (R 2 (lit< tt)) W some most 12240 (3 * i + 2) _ twice (lit≤ tt)
      (omega (arith, more-length zs (3 * i) (rs 0 *ℤ pos w), more-length once (3 * i + 1) (rs 1 *ℤ pos w))) green).is

  module _ (w h j : ℕ) where
    -- room for a target and for those behind it is room for it, and, once it has been sent to, for those
    room_first : (t : Target) (k : List Target) (zs : List ℤ) (i : ℕ) → landing w h j t ≡ pixel i → i < w * h → Room (t ∷ k) w h j zs
        → nat_abs (get_or zs (3 * i + 0) (pos 0)) + 255 * t.weight ≤ 4080
    unfolding weight_to is_at
    room_first t k zs i e l r =
        let here : cond (is_at i (landing w h j t)) t.weight 0 ≡ t.weight = ap (λ (b : Bool). cond b t.weight 0) (ap (is_at i) e ∙ eq-eqb i i refl) in
        omega (arith, r 0 i (lit< tt) l, here)

    room_rest : (t : Target) (k : List Target) (zs : List ℤ) → length zs ≡ 3 * (w * h) → Room (t ∷ k) w h j zs
        → Room k w h j (send zs rs (landing w h j t) t.weight)
    unfolding weight_to
    room_rest t k zs e r a i A l =
        let v : ℕ = cond (is_at i (landing w h j t)) t.weight 0 in
        let inside : 3 * i + a < length zs = omega arith in
        subst (λ (z : ℤ). nat_abs z + 255 * weight_to k w h j i ≤ 4080) (sym (send_at zs rs (landing w h j t) t.weight a i A inside))
        (omega (arith, sum_size (get_or zs (3 * i + a) (pos 0)) (rs a *ℤ pos v), product_bound (rs a) (pos v) 255 v (R a A).small (le_refl v), r a i A l))

    room_small : (k : List Target) (zs : List ℤ) → length zs ≡ 3 * (w * h) → Room k w h j zs → (q : ℕ) → q < length zs → nat_abs (get_or zs q (pos 0)) ≤ 4080
    room_small k zs e r q l =
        by_pixel (λ q. nat_abs (get_or zs q (pos 0)) ≤ 4080) (w * h) (λ a i A I. omega (arith, r a i A I)) q (subst (λ (n : ℕ). q < n) e l)

    one_target : (t : Target) (k : List Target) (zs : List ℤ) → T (ltb 0 t.weight) → length zs ≡ 3 * (w * h) → Room (t ∷ k) w h j zs
        → (p : Place) → p ≡ landing w h j t → send_f (map sixteenths zs) xs p (ratio_f t) ≡ map sixteenths (send zs rs p t.weight)
    one_target t k zs some e r (pixel i) q =
        let inside : i < w * h = landing-inside w h j t i (sym q) in
        let most : t.weight ≤ 16 = omega (arith, room_first t k zs i (sym q) inside r) in
        three_more (ratio_is t most) (ltb→lt 0 t.weight some) most zs i (omega arith) (room_small (t ∷ k) zs e r)
    one_target t k zs some e r outside q = unfold send_f send in refl

    pub diffuse_is : (k : List Target) (zs : List ℤ) → T (weighted k) → length zs ≡ 3 * (w * h) → Room k w h j zs
        → diffuse_f (map sixteenths zs) xs k w h j ≡ map sixteenths (sends zs rs k w h j)
    unfolding diffuse_f sends weighted
    diffuse_is [] zs s e r = refl
    diffuse_is (t ∷ k) zs s e r =
        ap (λ (v : List Float). diffuse_f v xs k w h j)
        (one_target t k zs (and_l (ltb 0 t.weight) (weighted k) s) e r (landing w h j t) refl)
        ∙ diffuse_is k (send zs rs (landing w h j t) t.weight) (and_r (ltb 0 t.weight) (weighted k) s)
        (send-length zs rs (landing w h j t) t.weight ∙ e) (room_rest t k zs e r)
