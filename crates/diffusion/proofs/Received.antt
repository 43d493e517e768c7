-- What a pixel receives, for any kernel: it is the gathered sum over its senders, and its cell is the only function that is; it is settled once
-- the pixel's turn comes; it lies within 4080 sixteenths, with all that the next pixel sends; later choices do not count. Assumes nothing.
use mathlib.Core.Path.{◌≡◌, refl, sym, ap, ◌∙◌, subst}
use mathlib.Core.Bool.{Bool, true, false, cond}
use mathlib.Core.List.{List}
use Prim.Native.Nat.{ℕ, zero, suc, ◌+◌, ◌-◌, ◌*◌, ◌≤◌, ◌<◌, zero-le}
use native.Mathlib.Nat.{add-zero, add-suc, mul-le-mul_right}
use native.Mathlib.Omega.{arith}
use lib.Dec.{T}
use lib.IntN.{ℤ, pos, nat_abs, ◌+ℤ◌, ◌-ℤ◌, ◌*ℤ◌, +ℤ_idr, *ℤ-zero}
use Rattle.floats.proofs.Int.{sum_size, product_size, difference_bound}
use Rattle.patterns.specs.declared.Target.{Target}
use Rattle.patterns.specs.Kernel.{total, later}
use Rattle.diffusion.specs.Biased.{biased_of}
use Rattle.diffusion.specs.Sum.{sum}
use Rattle.diffusion.specs.Diffusion.{Channel, weight_to, residual_of, received, cell, residual, Alike}
use Rattle.diffusion.proofs.Sum.{sum_same, sumℕ}
use Rattle.diffusion.proofs.Weights.{none_back, weights_arrive}
use Rattle.diffusion.proofs.Rounding.{biased_byte}

residual_size : (c : Channel) (i : ℕ) (z : ℤ) → c.chosen i ≤ 255 → nat_abs (residual_of c i z) ≤ 255
unfolding residual_of
residual_size c i z h = go (c.dithered i)
  where
    go : (b : Bool) → nat_abs (cond b (pos (biased_of (c.source i) z) -ℤ pos (c.chosen i)) (pos 0)) ≤ 255
    go true = difference_bound (biased_of (c.source i) z) (c.chosen i) 255 (biased_byte (c.source i) z) h
    go false = zero-le

module _ (k : List Target) (c : Channel) where
  -- the weight that the pixel j sends to the pixel i
  abbrev to : ℕ → ℕ → ℕ
  to j i = weight_to k c.width c.height j i

  -- ---- the sum over the senders
  pub received-sum : (n i : ℕ) → received k c n i ≡ sum (λ j. residual k c j *ℤ pos (weight_to k c.width c.height j i)) n
  unfolding received sum residual cell
  received-sum zero i = refl
  received-sum (suc n) i = ap (λ (x : ℤ). x +ℤ residual k c n *ℤ pos (to n i)) (received-sum n i)

  -- cell(i) is the sum over the earlier j of residual(j) · weight(j → i)
  pub cell-sum : (i : ℕ) → cell k c i ≡ sum (λ j. residual k c j *ℤ pos (weight_to k c.width c.height j i)) i
  unfolding cell
  cell-sum i = received-sum i i

  -- and whatever is that sum at every pixel is the cell
  pub cell_only : (f : ℕ → ℤ) → ((i : ℕ) → f i ≡ sum (λ j. residual_of c j (f j) *ℤ pos (weight_to k c.width c.height j i)) i) → (i : ℕ) → f i ≡ cell k c i
  unfolding residual
  cell_only f F i = before (suc i) i (omega arith)
    where
      before : (n i : ℕ) → i < n → f i ≡ cell k c i
      before zero i l = absurd (omega arith)
      before (suc n) i l =
          F i
          ∙ sum_same (λ j. residual_of c j (f j) *ℤ pos (to j i)) (λ j. residual k c j *ℤ pos (to j i)) i
          (λ j m. ap (λ (z : ℤ). residual_of c j z *ℤ pos (to j i)) (before n j (omega arith)))
          ∙ sym (cell-sum i)

  -- ---- nothing comes after the pixel's turn: the cell that a pixel reads is its final one
  settled_by : T (later k) → (i d : ℕ) → received k c (i + d) i ≡ cell k c i
  unfolding received cell residual
  settled_by s i zero = ap (λ (n : ℕ). received k c n i) (add-zero i)
  settled_by s i (suc d) =
      ap (λ (n : ℕ). received k c n i) (add-suc i d)
      ∙ ap (λ (n : ℕ). received k c (i + d) i +ℤ residual k c (i + d) *ℤ pos n) (none_back c.width c.height i k (i + d) s (omega arith))
      ∙ ap (λ (x : ℤ). received k c (i + d) i +ℤ x) (*ℤ-zero (residual k c (i + d)))
      ∙ +ℤ_idr (received k c (i + d) i)
      ∙ settled_by s i d

  pub settled : T (later k) → (n i : ℕ) → i ≤ n → received k c n i ≡ cell k c i
  settled s n i h = subst (λ (m : ℕ). received k c m i ≡ cell k c i) (reach i n h) (settled_by s i (n - i))
    where
      reach : (i n : ℕ) → i ≤ n → i + (n - i) ≡ n
      reach i n h = omega arith

  -- ---- the bound
  module _ (bytes : (j : ℕ) → c.chosen j ≤ 255) (t : total k ≤ 16) where
    send_size : (n w : ℕ) → nat_abs (residual k c n *ℤ pos w) ≤ 255 * w
    unfolding residual
    send_size n w = subst (λ (m : ℕ). m ≤ 255 * w) (sym (product_size (residual k c n) (pos w))) (mul-le-mul_right w (residual_size c n (cell k c n) (bytes n)))

    by_weights : (n i : ℕ) → nat_abs (received k c n i) ≤ 255 * sumℕ (λ j. to j i) n
    unfolding received sumℕ residual cell
    by_weights zero i = zero-le
    by_weights (suc n) i =
        omega (arith, sum_size (received k c n i) (residual k c n *ℤ pos (to n i)), by_weights n i, send_size n (to n i))

    pub bound : (n i : ℕ) → nat_abs (received k c n i) ≤ 4080
    bound n i = omega (arith, by_weights n i, weights_arrive c.width c.height i k n)

    -- what the pixel n sends has room beside it
    pub room : (n i : ℕ) → nat_abs (received k c n i) + 255 * weight_to k c.width c.height n i ≤ 4080
    unfolding sumℕ
    room n i = omega (arith, by_weights n i, weights_arrive c.width c.height i k (suc n))

-- ---- only what stands before a pixel counts, and of skipped pixels not the choice
module _ (c c' : Channel) where
  pub fewer : (n m : ℕ) → m ≤ n → Alike c c' n → Alike c c' m
  fewer n m l s = record {
    width = s.width;
    height = s.height;
    dithered = λ j h. s.dithered j (omega arith);
    source = λ j h. s.source j (omega arith);
    chosen = λ j h. s.chosen j (omega arith);
  }

  pub residual_same : (n j : ℕ) (z : ℤ) → j < n → Alike c c' n → residual_of c j z ≡ residual_of c' j z
  unfolding residual_of
  residual_same n j z l s =
      choose (c.dithered j) (s.chosen j l)
      ∙ (λ q. cond (s.dithered j l q) (pos (biased_of (s.source j l q) z) -ℤ pos (c'.chosen j)) (pos 0))
    where
      choose : (b : Bool) → (b ≡ true → c.chosen j ≡ c'.chosen j)
          → cond b (pos (biased_of (c.source j) z) -ℤ pos (c.chosen j)) (pos 0) ≡ cond b (pos (biased_of (c.source j) z) -ℤ pos (c'.chosen j)) (pos 0)
      choose true e = ap (λ (v : ℕ). pos (biased_of (c.source j) z) -ℤ pos v) (e refl)
      choose false e = refl

  pub received_same : (k : List Target) (n i : ℕ) → Alike c c' n → received k c n i ≡ received k c' n i
  unfolding received
  received_same k zero i s = refl
  received_same k (suc n) i s =
      let s' : Alike c c' n = fewer (suc n) n (omega arith) s in
      ap (λ (x : ℤ). received k c n i +ℤ x *ℤ pos (weight_to k c.width c.height n i)) (residual_same (suc n) n (received k c n n) (omega arith) s)
      ∙ (λ q. received_same k n i s' q +ℤ residual_of c' n (received_same k n n s' q) *ℤ pos (weight_to k (s.width q) (s.height q) n i))

  pub cell_same : (k : List Target) (i : ℕ) → Alike c c' i → cell k c i ≡ cell k c' i
  unfolding cell
  cell_same k i s = received_same k i i s
