-- The colour account of a dithered channel, for any kernel whose targets come later in the scan and whose weights, with the number that is held back,
-- are sixteen: sixteen times sources less choices is what was lost, what reached skipped pixels, what was dropped and what was held back. Each
-- pixel's equation is summed; the cells of the dithered pixels are what was sent to dithered pixels, and cancel. Assumes nothing.
use mathlib.Core.Path.{◌≡◌, refl, sym, ap, ◌∙◌}
use mathlib.Core.Bool.{Bool, true, false, cond, not}
use mathlib.Core.List.{List, [], ◌∷◌}
use Prim.Native.Nat.{ℕ, ◌+◌, ◌*◌, ◌<◌}
use native.Mathlib.Nat.{le_of_lt}
use lib.Dec.{T, eqb}
use lib.IntN.{ℤ, pos, ◌+ℤ◌, ◌-ℤ◌, ◌*ℤ◌, +ℤ_idl, +ℤ_idr, +ℤ-neg_ℤ_cancel, -ℤ-+ℤ_cancel, zero-*ℤ, *ℤ-zero, *ℤ_comm}
use Rattle.diffusion.specs.Biased.{biased_of}
use Rattle.patterns.specs.declared.Target.{Target}
use Rattle.patterns.specs.Kernel.{Place, pixel, outside, landing, total, later}
use Rattle.diffusion.specs.Sum.{sum}
use Rattle.diffusion.specs.Diffusion.{Channel, is_at, weight_to, residual_of, cell, residual, loss_of, loss}
use Rattle.diffusion.specs.Account.{over_dithered, sources, choices, excess, lost, sent, sent_to, is_skipped, is_outside, to_skipped, dropped, held}
use Rattle.floats.proofs.Int.{sums, cancel, times_add, add_times, sub_times}
use Rattle.diffusion.proofs.Sum.{sum_same, sum_zero, sum-add, sum_times, sum_swap, sum_one}
use Rattle.diffusion.proofs.Landings.{landing-inside}
use Rattle.diffusion.proofs.Received.{received-sum, settled}

-- ---- sums over the dithered pixels
module _ (c : Channel) where
  over_same : (f g : ℕ → ℤ) → ((i : ℕ) → i < c.width * c.height → c.dithered i ≡ true → f i ≡ g i) → over_dithered c f ≡ over_dithered c g
  unfolding over_dithered
  over_same f g h =
      sum_same (λ i. cond (c.dithered i) (f i) (pos 0)) (λ i. cond (c.dithered i) (g i) (pos 0)) (c.width * c.height) (λ i l. go (c.dithered i) (h i l))
    where
      go : (b : Bool) {x y : ℤ} → (b ≡ true → x ≡ y) → cond b x (pos 0) ≡ cond b y (pos 0)
      go true e = e refl
      go false e = refl

  over_add : (f g : ℕ → ℤ) → over_dithered c (λ i. f i +ℤ g i) ≡ over_dithered c f +ℤ over_dithered c g
  unfolding over_dithered
  over_add f g =
      sum_same (λ i. cond (c.dithered i) (f i +ℤ g i) (pos 0)) (λ i. cond (c.dithered i) (f i) (pos 0) +ℤ cond (c.dithered i) (g i) (pos 0))
      (c.width * c.height) (λ i l. go (c.dithered i) (f i) (g i))
      ∙ sum-add (λ i. cond (c.dithered i) (f i) (pos 0)) (λ i. cond (c.dithered i) (g i) (pos 0)) (c.width * c.height)
    where
      go : (b : Bool) (x y : ℤ) → cond b (x +ℤ y) (pos 0) ≡ cond b x (pos 0) +ℤ cond b y (pos 0)
      go true x y = refl
      go false x y = refl

  over_times : (f : ℕ → ℤ) (w : ℕ) → over_dithered c (λ i. f i *ℤ pos w) ≡ over_dithered c f *ℤ pos w
  unfolding over_dithered
  over_times f w =
      sum_same (λ i. cond (c.dithered i) (f i *ℤ pos w) (pos 0)) (λ i. cond (c.dithered i) (f i) (pos 0) *ℤ pos w) (c.width * c.height)
      (λ i l. go (c.dithered i) (f i))
      ∙ sum_times (λ i. cond (c.dithered i) (f i) (pos 0)) w (c.width * c.height)
    where
      go : (b : Bool) (x : ℤ) → cond b (x *ℤ pos w) (pos 0) ≡ cond b x (pos 0) *ℤ pos w
      go true x = refl
      go false x = sym (zero-*ℤ (pos w))

-- a weight of 0
nothing : (b : Bool) (r : ℤ) → cond b (r *ℤ pos 0) (pos 0) ≡ pos 0
nothing true r = *ℤ-zero r
nothing false r = refl

-- ---- what one pixel sends
is_dithered : Channel → Place → Bool
is_dithered c (pixel i) = c.dithered i
is_dithered c outside = false

module _ (c : Channel) where
  -- each send arrives at a dithered pixel, at a skipped one, or outside
  one_of_three : (p : Place) (x : ℤ) → cond (is_dithered c p) x (pos 0) +ℤ (cond (is_skipped c p) x (pos 0) +ℤ cond (is_outside p) x (pos 0)) ≡ x
  unfolding is_dithered is_skipped is_outside
  one_of_three (pixel i) x = go (c.dithered i)
    where
      go : (b : Bool) → cond b x (pos 0) +ℤ (cond (not b) x (pos 0) +ℤ pos 0) ≡ x
      go true = +ℤ_idr x
      go false = simp (+ℤ_idl, +ℤ_idr)
  one_of_three outside x = simp +ℤ_idl

  all_sent : (k : List Target) (w h i : ℕ) (r : ℤ)
      → sent (is_dithered c) k w h i r +ℤ (sent (is_skipped c) k w h i r +ℤ sent is_outside k w h i r) ≡ r *ℤ pos (total k)
  unfolding sent total
  all_sent [] w h i r = sym (*ℤ-zero r)
  all_sent (t ∷ k) w h i r =
      shuffle (part (is_dithered c)) (sent (is_dithered c) k w h i r) (part (is_skipped c)) (sent (is_skipped c) k w h i r) (part is_outside)
      (sent is_outside k w h i r)
      ∙ (λ q. one_of_three (landing w h i t) (r *ℤ pos t.weight) q +ℤ all_sent k w h i r q)
      ∙ sym (times_add r t.weight (total k))
    where
      part : (Place → Bool) → ℤ
      part test = cond (test (landing w h i t)) (r *ℤ pos t.weight) (pos 0)

      shuffle : (a a' b b' d d' : ℤ) → (a +ℤ a') +ℤ ((b +ℤ b') +ℤ (d +ℤ d')) ≡ (a +ℤ (b +ℤ d)) +ℤ (a' +ℤ (b' +ℤ d'))
      shuffle a a' b b' d d' = simp sums

  -- a skipped pixel sends nothing
  sent_nothing : (test : Place → Bool) (k : List Target) (w h i : ℕ) → sent test k w h i (pos 0) ≡ pos 0
  unfolding sent
  sent_nothing test [] w h i = refl
  sent_nothing test (t ∷ k) w h i = (λ q. go (test (landing w h i t)) q +ℤ sent_nothing test k w h i q)
    where
      go : (b : Bool) → cond b (pos 0 *ℤ pos t.weight) (pos 0) ≡ pos 0
      go true = zero-*ℤ (pos t.weight)
      go false = refl

  -- ---- what the dithered pixels get of one send, and of all of a pixel's sends
  get_one : (r : ℤ) (v n : ℕ) (p : Place) → ((m : ℕ) → p ≡ pixel m → m < n)
      → sum (λ i. cond (c.dithered i) (r *ℤ pos (cond (is_at i p) v 0)) (pos 0)) n ≡ cond (is_dithered c p) (r *ℤ pos v) (pos 0)
  unfolding is_dithered is_at
  get_one r v n (pixel m) h =
      sum_same (λ i. cond (c.dithered i) (r *ℤ pos (cond (eqb m i) v 0)) (pos 0))
      (λ i. cond (eqb m i) (cond (c.dithered i) (r *ℤ pos v) (pos 0)) (pos 0)) n (λ i l. go (c.dithered i) (eqb m i))
      ∙ sum_one (λ i. cond (c.dithered i) (r *ℤ pos v) (pos 0)) m n (h m refl)
    where
      go : (b e : Bool) → cond b (r *ℤ pos (cond e v 0)) (pos 0) ≡ cond e (cond b (r *ℤ pos v) (pos 0)) (pos 0)
      go true true = refl
      go true false = *ℤ-zero r
      go false true = refl
      go false false = refl
  get_one r v n outside h = sum_zero (λ i. cond (c.dithered i) (r *ℤ pos 0) (pos 0)) n (λ i l. nothing (c.dithered i) r)

  get_all : (k : List Target) (w h j : ℕ) (r : ℤ)
      → sum (λ i. cond (c.dithered i) (r *ℤ pos (weight_to k w h j i)) (pos 0)) (w * h) ≡ sent (is_dithered c) k w h j r
  unfolding weight_to sent
  get_all [] w h j r = sum_zero (λ i. cond (c.dithered i) (r *ℤ pos 0) (pos 0)) (w * h) (λ i l. nothing (c.dithered i) r)
  get_all (t ∷ k) w h j r =
      sum_same (λ i. cond (c.dithered i) (r *ℤ pos (part i + rest i)) (pos 0))
      (λ i. cond (c.dithered i) (r *ℤ pos (part i)) (pos 0) +ℤ cond (c.dithered i) (r *ℤ pos (rest i)) (pos 0)) (w * h)
      (λ i l. go (c.dithered i) (part i) (rest i))
      ∙ sum-add (λ i. cond (c.dithered i) (r *ℤ pos (part i)) (pos 0)) (λ i. cond (c.dithered i) (r *ℤ pos (rest i)) (pos 0)) (w * h)
      ∙ (λ q. get_one r t.weight (w * h) (landing w h j t) (λ m e. landing-inside w h j t m e) q +ℤ get_all k w h j r q)
    where
      part : ℕ → ℕ
      part i = cond (is_at i (landing w h j t)) t.weight 0

      rest : ℕ → ℕ
      rest i = weight_to k w h j i

      go : (b : Bool) (x y : ℕ) → cond b (r *ℤ pos (x + y)) (pos 0) ≡ cond b (r *ℤ pos x) (pos 0) +ℤ cond b (r *ℤ pos y) (pos 0)
      go true x y = times_add r x y
      go false x y = refl

-- ---- the dithered pixels' cells are what the dithered pixels sent to dithered pixels
module _ (k : List Target) (c : Channel) (s : T (later k)) where
  cells_are_sends : over_dithered c (cell k c) ≡ sent_to (is_dithered c) k c (cell k c)
  unfolding over_dithered sent_to residual residual_of
  cells_are_sends =
      sum_same (λ i. cond (c.dithered i) (cell k c i) (pos 0)) (λ i. sum (λ j. cond (c.dithered i) (send j i) (pos 0)) size) size
      (λ i l. ap (λ (x : ℤ). cond (c.dithered i) x (pos 0)) (sym (settled k c s size i (le_of_lt l)) ∙ received-sum k c size i)
      ∙ inward (c.dithered i) (λ j. send j i))
      ∙ sum_swap (λ i j. cond (c.dithered i) (send j i) (pos 0)) size size
      ∙ sum_same (λ j. sum (λ i. cond (c.dithered i) (send j i) (pos 0)) size)
      (λ j. cond (c.dithered j) (sent (is_dithered c) k c.width c.height j (residual k c j)) (pos 0)) size
      (λ j l. get_all c k c.width c.height j (residual k c j) ∙ quiet j (c.dithered j) (pos (biased_of (c.source j) (cell k c j)) -ℤ pos (c.chosen j)))
    where
      size : ℕ
      size = c.width * c.height

      send : ℕ → ℕ → ℤ
      send j i = residual k c j *ℤ pos (weight_to k c.width c.height j i)

      inward : (b : Bool) (f : ℕ → ℤ) → cond b (sum f size) (pos 0) ≡ sum (λ j. cond b (f j) (pos 0)) size
      inward true f = refl
      inward false f = sym (sum_zero (λ j. pos 0) size (λ j l. refl))

      quiet : (j : ℕ) (b : Bool) (x : ℤ)
          → sent (is_dithered c) k c.width c.height j (cond b x (pos 0))
          ≡ cond b (sent (is_dithered c) k c.width c.height j (cond b x (pos 0))) (pos 0)
      quiet j true x = refl
      quiet j false x = sent_nothing c (is_dithered c) k c.width c.height j

-- ---- one pixel
one_pixel : (s : ℕ) (z : ℤ) (v : ℕ) → pos s *ℤ pos 16 +ℤ z ≡ loss_of s z +ℤ ((pos (biased_of s z) -ℤ pos v) *ℤ pos 16 +ℤ pos v *ℤ pos 16)
unfolding loss_of
one_pixel s z v =
    sym (-ℤ-+ℤ_cancel (pos (s * 16) +ℤ z) (pos (biased_of s z * 16)))
    ∙ ap (λ (x : ℤ). loss_of s z +ℤ x)
    (ap (λ (x : ℤ). x *ℤ pos 16) (sym (-ℤ-+ℤ_cancel (pos (biased_of s z)) (pos v))) ∙ add_times (pos (biased_of s z) -ℤ pos v) (pos v) 16)

-- ---- the account
balance : (a b d l s o h : ℤ) → a +ℤ d ≡ l +ℤ (((d +ℤ (s +ℤ o)) +ℤ h) +ℤ b) → a -ℤ b ≡ l +ℤ s +ℤ o +ℤ h
balance a b d l s o h e = ap (λ (x : ℤ). x -ℤ b) (cancel a (l +ℤ s +ℤ o +ℤ h +ℤ b) d (e ∙ simp sums)) ∙ +ℤ-neg_ℤ_cancel (l +ℤ s +ℤ o +ℤ h) b

module _ (k : List Target) (h : ℕ) (c : Channel) (s : T (later k)) (t : total k + h ≡ 16) where
  shared : (r : ℤ) → r *ℤ pos (total k) +ℤ r *ℤ pos h ≡ r *ℤ pos 16
  shared r = sym (times_add r (total k) h) ∙ ap (λ (n : ℕ). r *ℤ pos n) t

  pixels : (i : ℕ) → c.dithered i ≡ true → pos (c.source i) *ℤ pos 16 +ℤ cell k c i ≡ loss k c i +ℤ (residual k c i *ℤ pos 16 +ℤ pos (c.chosen i) *ℤ pos 16)
  unfolding loss residual residual_of
  pixels i d = rw d (one_pixel (c.source i) (cell k c i) (c.chosen i))

  -- sixteen residuals: what reached dithered pixels, skipped ones, no pixel, and what was held back
  residuals : over_dithered c (λ i. residual k c i *ℤ pos 16)
      ≡ over_dithered c (cell k c) +ℤ (to_skipped k c (cell k c) +ℤ dropped k c (cell k c)) +ℤ held h c (cell k c)
  unfolding sent_to to_skipped dropped held residual
  residuals =
      over_same c (λ i. residual k c i *ℤ pos 16) (λ i. (to (is_dithered c) i +ℤ (to (is_skipped c) i +ℤ to is_outside i)) +ℤ residual k c i *ℤ pos h)
      (λ i l d. sym (shared (residual k c i)) ∙ ap (λ (x : ℤ). x +ℤ residual k c i *ℤ pos h) (sym (all_sent c k c.width c.height i (residual k c i))))
      ∙ over_add c (λ i. to (is_dithered c) i +ℤ (to (is_skipped c) i +ℤ to is_outside i)) (λ i. residual k c i *ℤ pos h)
      ∙ ap (λ (x : ℤ). x +ℤ held h c (cell k c))
      (over_add c (to (is_dithered c)) (λ i. to (is_skipped c) i +ℤ to is_outside i)
      ∙ (λ q. sym (cells_are_sends k c s) q +ℤ over_add c (to (is_skipped c)) (to is_outside) q))
    where
      to : (Place → Bool) → ℕ → ℤ
      to test i = sent test k c.width c.height i (residual k c i)

  of_cells : excess c ≡ lost c (cell k c) +ℤ to_skipped k c (cell k c) +ℤ dropped k c (cell k c) +ℤ held h c (cell k c)
  unfolding excess sources choices lost loss
  of_cells =
      *ℤ_comm (pos 16) (sources c -ℤ choices c)
      ∙ sub_times (sources c) (choices c) 16
      ∙ balance (sources c *ℤ pos 16) (choices c *ℤ pos 16) (over_dithered c (cell k c)) (lost c (cell k c)) (to_skipped k c (cell k c))
      (dropped k c (cell k c)) (held h c (cell k c)) both_sides
    where
      both_sides : sources c *ℤ pos 16 +ℤ over_dithered c (cell k c)
          ≡ lost c (cell k c)
          +ℤ (over_dithered c (cell k c) +ℤ (to_skipped k c (cell k c) +ℤ dropped k c (cell k c)) +ℤ held h c (cell k c) +ℤ choices c *ℤ pos 16)
      both_sides =
          ap (λ (x : ℤ). x +ℤ over_dithered c (cell k c)) (sym (over_times c (λ i. pos (c.source i)) 16))
          ∙ sym (over_add c (λ i. pos (c.source i) *ℤ pos 16) (cell k c))
          ∙ over_same c (λ i. pos (c.source i) *ℤ pos 16 +ℤ cell k c i) (λ i. loss k c i +ℤ (residual k c i *ℤ pos 16 +ℤ pos (c.chosen i) *ℤ pos 16))
          (λ i l d. pixels i d)
          ∙ over_add c (loss k c) (λ i. residual k c i *ℤ pos 16 +ℤ pos (c.chosen i) *ℤ pos 16)
          ∙ ap (λ (x : ℤ). lost c (cell k c) +ℤ x)
          (over_add c (λ i. residual k c i *ℤ pos 16) (λ i. pos (c.chosen i) *ℤ pos 16)
          ∙ (λ q. residuals q +ℤ over_times c (λ i. pos (c.chosen i)) 16 q))

  -- so it does with the cells as they are read, where these are the picture's
  module _ (cells : ℕ → ℤ) (read : (i : ℕ) → i < c.width * c.height → cells i ≡ cell k c i) where
    term : (f : ℕ → ℤ → ℤ) → over_dithered c (λ i. f i (cell k c i)) ≡ over_dithered c (λ i. f i (cells i))
    term f = over_same c (λ i. f i (cell k c i)) (λ i. f i (cells i)) (λ i l d. ap (f i) (sym (read i l)))

    sent_same : (test : Place → Bool) → sent_to test k c (cell k c) ≡ sent_to test k c cells
    unfolding sent_to
    sent_same test = term (λ i z. sent test k c.width c.height i (residual_of c i z))

    pub account : excess c ≡ lost c cells +ℤ to_skipped k c cells +ℤ dropped k c cells +ℤ held h c cells
    unfolding lost to_skipped dropped held
    account =
        of_cells
        ∙ (λ q. term (λ i z. loss_of (c.source i) z) q
        +ℤ sent_same (is_skipped c) q
        +ℤ sent_same is_outside q
        +ℤ term (λ i z. residual_of c i z *ℤ pos h) q)
