-- A kernel's targets, of which each is near; the sends of the first of them, and of one more; and the room that the cells have between them.
-- Assumes nothing.
use mathlib.Core.Path.{◌≡◌, refl, sym, ap, ◌∙◌, subst}
use mathlib.Core.List.{List, [], ◌∷◌, ◌++◌}
use Prim.Native.Nat.{ℕ, zero, suc, ◌+◌, ◌*◌, ◌≤◌, ◌<◌}
use native.Mathlib.Nat.{le_of_suc-le-suc, not-suc-le-zero, le_refl}
use native.Mathlib.Numerals.{add-one}
use native.Mathlib.Omega.{arith}
use lib.Dec.{T, leb, leb→le}
use lib.IntN.{ℤ, pos, nat_abs, ◌*ℤ◌}
use lib.ListN.{length, get_or, take}
use lib.Seq.{take-suc}
use lib.Ieee.Fits.{and_l, and_r}
use Rattle.floats.proofs.Int.{sum_size, product_bound}
use Rattle.patterns.specs.declared.Target.{Target}
use Rattle.patterns.specs.Kernel.{target, Place, pixel, outside, landing, near, all_near}
use Rattle.diffusion.specs.Diffusion.{weight_to}
use Rattle.diffusion.specs.Scatter.{send, sends}
use Rattle.diffusion.specs.declared.residual.Residual.{Residual}
use Rattle.diffusion.specs.Sends.{in_order, RoomAt, Room}
use Rattle.diffusion.proofs.Channels.{by_channel, by_pixel}
use Rattle.diffusion.proofs.Landings.{landing-inside}
use Rattle.diffusion.proofs.Weights.{weights_part, weight_next}
use Rattle.diffusion.proofs.Scatter.{sends_at, sends-length}

abbrev pub none : Target
none = target (pos 0) 0 0

pub near_at : (k : List Target) (m : ℕ) → T (all_near k) → m < length k → T (near (get_or k m none))
unfolding all_near
near_at [] m s h = absurd (not-suc-le-zero h)
near_at (t ∷ k) zero s h = and_l (near t) (all_near k) s
near_at (t ∷ k) (suc m) s h = near_at k m (and_r (near t) (all_near k) s) (le_of_suc-le-suc h)

pub near_parts : (t : Target) → T (near t) → (nat_abs t.dx ≤ 16) × (t.dy ≤ 16)
near_parts t s = (
  leb→le (nat_abs t.dx) 16 (and_l (leb (nat_abs t.dx) 16) (leb t.dy 16) s),
  leb→le t.dy 16 (and_r (leb (nat_abs t.dx) 16) (leb t.dy 16) s),
)

sends_last : (rs : ℕ → ℤ) (w h j : ℕ) (k : List Target) (t : Target) (zs : List ℤ)
    → sends zs rs (k ++ (t ∷ [])) w h j ≡ send (sends zs rs k w h j) rs (landing w h j t) t.weight
unfolding sends
sends_last rs w h j [] t zs = refl
sends_last rs w h j (u ∷ k) t zs = sends_last rs w h j k t (send zs rs (landing w h j u) u.weight)

-- ---- the cells between the sends
pub residuals_small : (r : Residual) (a : ℕ) → a < 3 → nat_abs (in_order r a) ≤ 255
residuals_small r = by_channel (λ a. nat_abs (in_order r a) ≤ 255) r.red r.green r.blue

module _ (w h j : ℕ) (zs : List ℤ) (rs : ℕ → ℤ) (e : length zs ≡ 3 * (w * h)) (R : (a : ℕ) → a < 3 → nat_abs (rs a) ≤ 255) where
  -- after some targets' sends a cell is larger by at most 255 times their weights
  grown : (k : List Target) (a i : ℕ) → a < 3 → i < w * h
      → nat_abs (get_or (sends zs rs k w h j) (3 * i + a) (pos 0)) ≤ nat_abs (get_or zs (3 * i + a) (pos 0)) + 255 * weight_to k w h j i
  grown k a i A l =
      let v : ℕ = weight_to k w h j i in
      let inside : 3 * i + a < length zs = omega arith in
      subst (λ (z : ℤ). nat_abs z ≤ nat_abs (get_or zs (3 * i + a) (pos 0)) + 255 * v) (sym (sends_at rs w h j k zs a i A inside))
      (omega (arith, sum_size (get_or zs (3 * i + a) (pos 0)) (rs a *ℤ pos v), product_bound (rs a) (pos v) 255 v (R a A) (le_refl v)))

  module _ (k : List Target) (r : Room k w h j zs) where
    -- part way through a pixel's sends the cells lie within 4080 sixteenths, as before and after them
    pub part_way : (m q : ℕ) → q < length (sends zs rs (take m k) w h j) → nat_abs (get_or (sends zs rs (take m k) w h j) q (pos 0)) ≤ 4080
    part_way m q l =
        by_pixel (λ q. nat_abs (get_or (sends zs rs (take m k) w h j) q (pos 0)) ≤ 4080) (w * h)
        (λ a i A I. omega (arith, grown (take m k) a i A I, weights_part w h i k m j, r a i A I)) q
        (subst (λ (x : ℕ). q < x) (sends-length rs w h j (take m k) zs ∙ e) l)

    -- and those that the next target reaches have room for it
    pub next_room : (m : ℕ) → m < length k → (p : Place) → p ≡ landing w h j (get_or k m none) → RoomAt (sends zs rs (take m k) w h j) p (get_or k m none).weight
    next_room m l (pixel i) q =
        let I : i < w * h = landing-inside w h j (get_or k m none) i (sym q) in
        λ a A. omega (arith, grown (take m k) a i A I, weight_next w h i j none k m l (sym q), r a i A I)
    next_room m l outside q = tt

-- the sends of one target more
pub next : (w h j : ℕ) (k : List Target) (zs : List ℤ) (rs : ℕ → ℤ) (m : ℕ) → m < length k
    → send (sends zs rs (take m k) w h j) rs (landing w h j (get_or k m none)) (get_or k m none).weight ≡ sends zs rs (take (m + 1) k) w h j
next w h j k zs rs m l =
    sym (sends_last rs w h j (take m k) (get_or k m none) zs)
    ∙ ap (λ (v : List Target). sends zs rs v w h j) (sym (ap (λ (n : ℕ). take n k) (add-one m) ∙ take-suc k m none l))
