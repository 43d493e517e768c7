-- Sums of three products of whole numbers from -255 to 255, in f32: exact; a sum that is zero can be -0, and a sum of squares is not negative. Assumes nothing.
use mathlib.Core.Path.{◌≡◌, refl, sym, ap, ◌∙◌}
use Prim.Native.Nat.{ℕ, ◌+◌, ◌*◌, ◌^◌, ◌≤◌, ◌<◌}
use native.Mathlib.Nat.{lt_of_le_of_lt}
use native.Mathlib.Omega.{arith}
use lib.IntN.{ℤ, pos, negsuc, nat_abs, ◌+ℤ◌, ◌*ℤ◌}
use lib.Dec.{lit<}
use lib.Ieee.{Float, binary32, add, mul}
use Rattle.floats.specs.Whole.{Whole}
use Rattle.floats.specs.Bounds.{Within, Upto}
use Rattle.floats.specs.Bytes.{dot, dotℤ}
use Rattle.floats.proofs.Int.{sum_bound, product_bound}
use Rattle.floats.proofs.Within.{square_upto, add_upto}
use Rattle.floats.proofs.Whole.{whole_add, whole_mul}

-- three whole numbers of at most 255 either way, and the three floats that they are
pub record Triple (a b c : ℤ) (x y z : Float) : Type 0 where
  pub first : Whole a x
  pub second : Whole b y
  pub third : Whole c z
  pub first_small : nat_abs a ≤ 255
  pub second_small : nat_abs b ≤ 255
  pub third_small : nat_abs c ≤ 255

small : (n : ℕ) → n ≤ 255 → n < 2 ^ 24
small n h = omega arith

module _ {a b c a' b' c' : ℤ} {x y z x' y' z' : Float} (p : Triple a b c x y z) (q : Triple a' b' c' x' y' z') where
  two_bound : nat_abs (a *ℤ a' +ℤ b *ℤ b') ≤ 130050
  two_bound =
      sum_bound (a *ℤ a') (b *ℤ b') 65025 65025 (product_bound a a' 255 255 p.first_small q.first_small)
      (product_bound b b' 255 255 p.second_small q.second_small)

  pub dot_bound : nat_abs (dotℤ a b c a' b' c') ≤ 195075
  dot_bound = sum_bound (a *ℤ a' +ℤ b *ℤ b') (c *ℤ c') 130050 65025 two_bound (product_bound c c' 255 255 p.third_small q.third_small)

  one_bound : (d d' : ℤ) → nat_abs d ≤ 255 → nat_abs d' ≤ 255 → nat_abs (d *ℤ d') < 2 ^ 24
  one_bound d d' h k = lt_of_le_of_lt (product_bound d d' 255 255 h k) (lit< tt)

  pub dot_whole : Whole (dotℤ a b c a' b' c') (dot x y z x' y' z')
  unfolding dot
  dot_whole =
      whole_add (a *ℤ a' +ℤ b *ℤ b') (c *ℤ c') (add binary32 (mul binary32 x x') (mul binary32 y y')) (mul binary32 z z')
      (lt_of_le_of_lt two_bound (lit< tt))
      (one_bound c c' p.third_small q.third_small)
      (whole_add (a *ℤ a') (b *ℤ b') (mul binary32 x x') (mul binary32 y y') (one_bound a a' p.first_small q.first_small)
      (one_bound b b' p.second_small q.second_small)
      (whole_mul a a' x x' (small (nat_abs a) p.first_small) (small (nat_abs a') q.first_small) p.first q.first)
      (whole_mul b b' y y' (small (nat_abs b) p.second_small) (small (nat_abs b') q.second_small) p.second q.second))
      (whole_mul c c' z z' (small (nat_abs c) p.third_small) (small (nat_abs c') q.third_small) p.third q.third)

-- ---- a sum of squares
pub square-dot : (A : ℕ) (x y z : Float) → A * A + A * A + A * A ≤ 2 ^ 24 → Within A x → Within A y → Within A z
    → Upto (A * A + A * A + A * A) (dot x y z x y z)
unfolding dot
square-dot A x y z h X Y Z =
    add_upto (A * A + A * A) (A * A) (add binary32 (mul binary32 x x) (mul binary32 y y)) (mul binary32 z z) h
    (add_upto (A * A) (A * A) (mul binary32 x x) (mul binary32 y y) (two (A * A) h) (square_upto A x (one (A * A) h) X) (square_upto A y (one (A * A) h) Y))
    (square_upto A z (one (A * A) h) Z)
  where
    one : (s : ℕ) → s + s + s ≤ 2 ^ 24 → s ≤ 2 ^ 24
    one s k = omega arith

    two : (s : ℕ) → s + s + s ≤ 2 ^ 24 → s + s ≤ 2 ^ 24
    two s k = omega arith

pub square : (z : ℤ) → z *ℤ z ≡ pos (nat_abs z * nat_abs z)
square (pos n) = refl
square (negsuc n) = refl

pub squares : (x y z : ℤ) → dotℤ x y z x y z ≡ pos (nat_abs (dotℤ x y z x y z))
squares x y z =
    let e : dotℤ x y z x y z ≡ pos (nat_abs x * nat_abs x + nat_abs y * nat_abs y + nat_abs z * nat_abs z) = (λ i. square x i +ℤ square y i +ℤ square z i) in
    e ∙ ap (λ (w : ℤ). pos (nat_abs w)) (sym e)
