-- The weights that arrive at a pixel, for any kernel: none from the pixel itself or a later one where the targets come later, and no more in all
-- than the kernel's total. Assumes nothing.
use mathlib.Core.Path.{◌≡◌, refl, sym, ap, ◌∙◌, subst}
use mathlib.Core.Bool.{Bool, true, false, cond}
use mathlib.Core.List.{List, [], ◌∷◌}
use Prim.Native.Nat.{ℕ, zero, suc, ◌+◌, ◌≤◌, ◌<◌, zero-le}
use native.Mathlib.Nat.{le_refl, lt_irrefl, le_of_suc-le-suc, not-suc-le-zero}
use native.Mathlib.Omega.{arith}
use borrow.Author.Tests.{eq-eqb}
use lib.Dec.{T, eqb→eq}
use lib.ListN.{length, get_or, take}
use lib.Ieee.Fits.{and_l, and_r}
use Rattle.patterns.specs.declared.Target.{Target}
use Rattle.patterns.specs.Kernel.{Place, pixel, outside, landing, total, comes_later, later}
use Rattle.diffusion.specs.Diffusion.{is_at, weight_to}
use Rattle.diffusion.proofs.Sum.{sumℕ, sumℕ_add, sumℕ_zero}
use Rattle.diffusion.proofs.Landings.{landing_later, landing_once}

-- a test's two outcomes
by_test {ℓ} : (b : Bool) {X : Type ℓ} → (b ≡ true → X) → (b ≡ false → X) → X
by_test true f g = f refl
by_test false f g = g refl

is_at_lem : (i : ℕ) (p : Place) → is_at i p ≡ true → p ≡ pixel i
unfolding is_at
is_at_lem i (pixel k) e = ap pixel (eqb→eq k i (subst T (sym e) tt))
is_at_lem i outside e = cc

module _ (w h i : ℕ) where
  -- what one target of the pixel j sends to the pixel i
  abbrev part : Target → ℕ → ℕ
  part t j = cond (is_at i (landing w h j t)) t.weight 0

  part_there : (t : Target) (j : ℕ) → is_at i (landing w h j t) ≡ true → part t j ≡ t.weight
  part_there t j e = ap (λ (b : Bool). cond b t.weight 0) e

  part_not : (t : Target) (j : ℕ) → (landing w h j t ≡ pixel i → ⊥) → part t j ≡ 0
  part_not t j f = by_test (is_at i (landing w h j t)) (λ e. absurd (f (is_at_lem i (landing w h j t) e))) (λ e. ap (λ (b : Bool). cond b t.weight 0) e)

  -- a pixel sends nothing to itself or back
  pub none_back : (k : List Target) (j : ℕ) → T (later k) → i ≤ j → weight_to k w h j i ≡ 0
  unfolding weight_to later
  none_back [] j s l = refl
  none_back (t ∷ k) j s l =
      let here = part_not t j (λ e. back (landing_later w h j t i e (and_l (comes_later t) (later k) s))) in
      omega (arith, here, none_back k j (and_r (comes_later t) (later k) s) l)
    where
      back : j < i → ⊥
      back b = omega arith

  -- a target arrives from one pixel only
  part_once : (t : Target) (n : ℕ) → sumℕ (part t) n ≤ t.weight
  unfolding sumℕ
  part_once t zero = zero-le
  part_once t (suc n) = by_test (is_at i (landing w h n t)) (λ e. there e) (λ e. omega (arith, part_once t n, ap (λ (b : Bool). cond b t.weight 0) e))
    where
      there : is_at i (landing w h n t) ≡ true → sumℕ (part t) n + part t n ≤ t.weight
      there e =
          let before =
          sumℕ_zero (part t) n (λ j l. part_not t j
          (λ q. lt_irrefl j (subst (λ (m : ℕ). j < m) (landing_once w h n j t i (is_at_lem i (landing w h n t) e) q) l))) in
          omega (arith, before, part_there t n e)

  pub weights_arrive : (k : List Target) (n : ℕ) → sumℕ (λ j. weight_to k w h j i) n ≤ total k
  unfolding weight_to total
  weights_arrive [] n = omega (arith, sumℕ_zero (λ j. 0) n (λ j l. refl))
  weights_arrive (t ∷ k) n = omega (arith, sumℕ_add (part t) (λ j. weight_to k w h j i) n, part_once t n, weights_arrive k n)

  -- the first m targets
  pub weights_part : (k : List Target) (m j : ℕ) → weight_to (take m k) w h j i ≤ weight_to k w h j i
  unfolding weight_to
  weights_part [] zero j = le_refl 0
  weights_part [] (suc m) j = le_refl 0
  weights_part (t ∷ k) zero j = zero-le
  weights_part (t ∷ k) (suc m) j = omega (arith, weights_part k m j)

  -- one of the targets, beside those before it
  pub weight_next : (j : ℕ) (d : Target) (k : List Target) (m : ℕ) → m < length k → landing w h j (get_or k m d) ≡ pixel i
      → weight_to (take m k) w h j i + (get_or k m d).weight ≤ weight_to k w h j i
  unfolding weight_to
  weight_next j d [] m l e = absurd (not-suc-le-zero l)
  weight_next j d (t ∷ k) zero l e = omega (arith, part_there t j (ap (is_at i) e ∙ unfold is_at in eq-eqb i i refl))
  weight_next j d (t ∷ k) (suc m) l e = omega (arith, weight_next j d k m (le_of_suc-le-suc l) e)
