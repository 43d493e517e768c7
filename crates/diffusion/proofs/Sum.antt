-- Sums: equal terms, no terms, sums and multiples of terms, sums of sums in either order, a sum of one term. Assumes nothing.
use mathlib.Core.Path.{◌≡◌, refl, sym, ap, ◌∙◌}
use mathlib.Core.Bool.{Bool, true, false, cond}
use Prim.Native.Nat.{ℕ, zero, suc, ◌+◌, ◌<◌}
use native.Mathlib.Nat.{le_of_suc-le-suc, not-suc-le-zero}
use native.Mathlib.Omega.{arith}
use borrow.Author.Tests.{eqb-true, eqb-false, ne_eqb}
use lib.Arith.{lt_of_le-ne}
use lib.Dec.{eqb}
use lib.IntN.{ℤ, pos, ◌+ℤ◌, ◌*ℤ◌, +ℤ_idl, +ℤ_idr, zero-*ℤ}
use Rattle.floats.proofs.Int.{sums, add_times}
use Rattle.diffusion.specs.Sum.{sum}

pub sum_same : (f g : ℕ → ℤ) (n : ℕ) → ((i : ℕ) → i < n → f i ≡ g i) → sum f n ≡ sum g n
unfolding sum
sum_same f g zero h = refl
sum_same f g (suc n) h = λ i. sum_same f g n (λ k l. h k (omega arith)) i +ℤ h n (omega arith) i

pub sum_zero : (f : ℕ → ℤ) (n : ℕ) → ((i : ℕ) → i < n → f i ≡ pos 0) → sum f n ≡ pos 0
unfolding sum
sum_zero f zero h = refl
sum_zero f (suc n) h = λ i. sum_zero f n (λ k l. h k (omega arith)) i +ℤ h n (omega arith) i

pub sum-add : (f g : ℕ → ℤ) (n : ℕ) → sum (λ i. f i +ℤ g i) n ≡ sum f n +ℤ sum g n
unfolding sum
sum-add f g zero = refl
sum-add f g (suc n) = rw (sum-add f g n) (simp sums)

pub sum_times : (f : ℕ → ℤ) (w n : ℕ) → sum (λ i. f i *ℤ pos w) n ≡ sum f n *ℤ pos w
unfolding sum
sum_times f w zero = sym (zero-*ℤ (pos w))
sum_times f w (suc n) = rw (sum_times f w n) (sym (add_times (sum f n) (f n) w))

pub sum_swap : (f : ℕ → ℕ → ℤ) (m n : ℕ) → sum (λ i. sum (f i) m) n ≡ sum (λ j. sum (λ i. f i j) n) m
unfolding sum
sum_swap f m zero = sym (sum_zero (λ j. pos 0) m (λ j l. refl))
sum_swap f m (suc n) = rw (sum_swap f m n) (sym (sum-add (λ j. sum (λ i. f i j) n) (λ j. f n j) m))

-- a sum of one term
pub sum_one : (f : ℕ → ℤ) (k n : ℕ) → k < n → sum (λ i. cond (eqb k i) (f i) (pos 0)) n ≡ f k
unfolding sum
sum_one f k zero h = absurd (not-suc-le-zero h)
sum_one f k (suc n) h = go (eqb k n) refl (sum_one f k n)
  where
    only : ℕ → ℤ
    only i = cond (eqb k i) (f i) (pos 0)

    go : (t : Bool) → eqb k n ≡ t → (k < n → sum only n ≡ f k) → sum only n +ℤ cond t (f n) (pos 0) ≡ f k
    go true e ih =
        let same : k ≡ n = eqb-true k n e in
        let before : sum only n ≡ pos 0 = sum_zero only n (λ i l. ap (λ (t : Bool). cond t (f i) (pos 0)) (ne_eqb k i (omega arith))) in
        ap (λ (x : ℤ). x +ℤ f n) before ∙ +ℤ_idl (f n) ∙ ap f (sym same)
    go false e ih = +ℤ_idr (sum only n) ∙ ih (lt_of_le-ne (le_of_suc-le-suc h) (eqb-false k n e))

-- ---- the same of natural numbers, for how large a sum is
unfoldable pub sumℕ : (ℕ → ℕ) → ℕ → ℕ
sumℕ f zero = 0
sumℕ f (suc n) = sumℕ f n + f n

pub sumℕ_add : (f g : ℕ → ℕ) (n : ℕ) → sumℕ (λ i. f i + g i) n ≡ sumℕ f n + sumℕ g n
unfolding sumℕ
sumℕ_add f g zero = refl
sumℕ_add f g (suc n) = omega (arith, sumℕ_add f g n)

pub sumℕ_zero : (f : ℕ → ℕ) (n : ℕ) → ((i : ℕ) → i < n → f i ≡ 0) → sumℕ f n ≡ 0
unfolding sumℕ
sumℕ_zero f zero h = refl
sumℕ_zero f (suc n) h = omega (arith, sumℕ_zero f n (λ k l. h k (omega arith)), h n (omega arith))
