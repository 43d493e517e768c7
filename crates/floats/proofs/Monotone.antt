-- Sums, products, quotients and whole parts of f32 values that are finite, not negative and not -0 are monotone: greater operands give no lesser result.
-- The order is that of the fractions which the values are (`Under`). Assumes nothing.
use mathlib.Core.Path.{◌≡◌, refl}
use mathlib.Core.Bool.{true, false}
use Prim.Native.Nat.{ℕ, ◌+◌, ◌*◌, ◌^◌, ◌≤◌, ◌<◌}
use native.Mathlib.Nat.{mul-le-mul, mul-le-mul_right, le_of_mul-le-mul_right, mul-pos}
use native.Mathlib.Omega.{arith}
use lib.IntN.{ℤ, pos}
use lib.Dec.{T, lit≤, lit<}
use lib.Ieee.{Float, nan, inf, fin, binary32, up, down, round, sum, add, mul, div, le, of_int, to_unsigned}
use lib.Ieee.Fits.{down_pos}
use lib.Ieee.Exact.{HasValue}
use lib.Ieee.Nearest.{div_mono}
use lib.Ieee.Order.{round_mono}
use Rattle.floats.specs.Over.{over}
use Rattle.floats.specs.Bounds.{Upto}
use Rattle.floats.specs.Bytes.{byte_f}
use Rattle.floats.proofs.At.{div_at}
use Rattle.floats.proofs.Within.{le_of_test, round_upto}

-- x ≤ y ≤ A, both finite, not negative and not -0
pub data Under (A : ℕ) : Float → Float → Type 0 where
  under : (m : ℕ) (e : ℤ) (n : ℕ) (d : ℤ) → n * up d ≤ A * down d → m * up e * down d ≤ n * up d * down e → Under A (fin false m e) (fin false n d)

under_of : (A : ℕ) (x y : Float) → Upto A x → Upto A y → T (le x y) → Under A x y
unfolding le
under_of A nan y p q t = absurd p
under_of A (inf s) y p q t = absurd p
under_of A (fin true m e) y p q t = absurd p
under_of A (fin false m e) nan p q t = absurd q
under_of A (fin false m e) (inf s) p q t = absurd q
under_of A (fin false m e) (fin true n d) p q t = absurd q
under_of A (fin false m e) (fin false n d) p q t = under m e n d q (le_of_test (m * up e * down d) (n * up d * down e) true t)

-- ---- two fractions in order, rounded: a / c ≤ b / d ≤ A
pub round_under : (A a c b d : ℕ) → 0 < c → 0 < d → A ≤ 2 ^ 24 → b ≤ A * d → a * d ≤ b * c → Under A (round binary32 false a c) (round binary32 false b d)
round_under A a c b d C D L h k =
    under_of A _ _ (round_upto A a c C L (le_of_mul-le-mul_right {k = d} (omega (arith, mul-le-mul_right c h)) D)) (round_upto A b d D L h)
    (round_mono binary32 a c b d C D k)

-- whole numbers over the same denominator, and bytes
pub over_under : (A c m n : ℕ) → 0 < c → A ≤ 2 ^ 24 → n ≤ A * c → m ≤ n → Under A (over c (pos m)) (over c (pos n))
unfolding over
over_under A c m n C L h k = round_under A m c n c C C L h (mul-le-mul_right c k)

pub byte_under : (m n : ℕ) → m ≤ n → n < 256 → Under 255 (byte_f m) (byte_f n)
unfolding byte_f of_int over
byte_under m n h k = over_under 255 1 m n (lit< tt) (lit≤ tt) (omega arith) h

-- ---- the operations
pub mul_under : (A B : ℕ) {x x' y y' : Float} → A * B ≤ 2 ^ 24 → Under A x x' → Under B y y' → Under (A * B) (mul binary32 x y) (mul binary32 x' y')
unfolding mul
mul_under A B L (under m e m' e' h k) (under n d n' d' p q) =
    round_under (A * B) _ _ _ _ (mul-pos (down_pos e) (down_pos d)) (mul-pos (down_pos e') (down_pos d')) L (omega (arith, mul-le-mul h p))
    (omega (arith, mul-le-mul k q))

pub add_under : (A B : ℕ) {x x' y y' : Float} → A + B ≤ 2 ^ 24 → Under A x x' → Under B y y' → Under (A + B) (add binary32 x y) (add binary32 x' y')
unfolding add sum
add_under A B L (under m e m' e' h k) (under n d n' d' p q) =
    round_under (A + B) _ _ _ _ (mul-pos (down_pos e) (down_pos d)) (mul-pos (down_pos e') (down_pos d')) L
    (omega (arith, mul-le-mul_right (down d') h, mul-le-mul_right (down e') p))
    (omega (arith, mul-le-mul_right (down d * down d') k, mul-le-mul_right (down e * down e') q))

-- by the same y, which is a whole number and not 0
pub div_under : (A B n : ℕ) {x x' : Float} (y : Float) → 0 < n → B ≤ 2 ^ 24 → A ≤ B * n → HasValue y false n 1 → Under A x x'
    → Under B (div binary32 x y) (div binary32 x' y)
div_under A B n y N L r v (under m e m' e' h k) =
    rw (by m e, by m' e')
    (round_under B _ _ _ _ (mul-pos N (down_pos e)) (mul-pos N (down_pos e')) L (omega (arith, mul-le-mul_right (down e') r))
    (omega (arith, mul-le-mul_right n k)))
  where
    by : (m : ℕ) (e : ℤ) → div binary32 (fin false m e) y ≡ round binary32 false (m * up e * 1) (n * down e)
    by m e = div_at binary32 (fin false m e) y false false (m * up e) (down e) n 1 (down_pos e) (lit< tt) N (refl, refl) v

-- ---- cut to an unsigned whole number of w bits
pub cut_under : (A w : ℕ) {x y : Float} → Under A x y → to_unsigned w x ≤ to_unsigned w y
unfolding to_unsigned
cut_under A w (under m e n d h k) = omega (arith, div_mono (m * up e) (down e) (n * up d) (down d) (down_pos e) (down_pos d) k)
