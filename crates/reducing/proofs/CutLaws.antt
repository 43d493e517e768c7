-- A float from 0 to 255 and a byte: the float is below the byte exactly if it is cut to a lesser one (`cut_below`). So the byte at which it is cut is found by
-- comparisons. Assumes nothing.
use mathlib.Core.Path.{◌≡◌, sym, ap, ◌∙◌, subst}
use Prim.Native.Nat.{ℕ, ◌-◌, ◌*◌, ◌/◌, ◌^◌, ◌≤◌, ◌<◌, min}
use native.Mathlib.Nat.{le_trans, mul-one, mul_right_comm, mul-lt-mul_of_pos_right, lt_of_mul-lt-mul_right, div-lt_iff_lt-mul, div-le_of_le-mul, mul_comm, min-eq_left}
use native.Mathlib.Omega.{arith}
use mathlib.Core.Bool.{true, false, true≢false}
use lib.Dec.{ltb, ltb→lt, lt→ltb, lit≤}
use lib.Ieee.{Float, nan, inf, fin, binary32, up, down, lt, to_unsigned}
use lib.Ieee.Fits.{down_pos}
use lib.Ieee.Exact.{HasValue}
use lib.Ieee.Back.{round_whole}
use borrow.Author.Tests.{ltb-true, ltb-false}
use Rattle.floats.specs.Bounds.{Upto}
use Rattle.floats.specs.Bytes.{byte_f}
use Rattle.floats.proofs.At.{same_test}
use Rattle.reducing.specs.Luma.{cut_byte}

pub byte_value : (n : ℕ) → n < 256 → HasValue (byte_f n) false n 1
unfolding byte_f lib.Ieee.of_int
byte_value n h = round_whole binary32 false n (le_trans {m = 256} (omega arith) (lit≤ tt))

module _ (x e : ℕ) (E : 0 < e) (small : x ≤ 255 * e) where
  -- x / e is at most 255
  low : x / e ≤ 255
  low = div-le_of_le-mul e (subst (λ (z : ℕ). x ≤ z) (mul_comm 255 e) small)

  capped : min (x / e) (2 ^ 8 - 1) ≡ x / e
  capped = min-eq_left low

  -- below n, as fractions and as whole parts; the byte n is y / d
  test : (y d n : ℕ) → 0 < d → y * 1 ≡ n * d → ltb (x * d) (y * e) ≡ ltb (min (x / e) (2 ^ 8 - 1)) n
  test y d n D p =
      same_test (ltb (x * d) (y * e)) (ltb (min (x / e) (2 ^ 8 - 1)) n) (λ t. lt→ltb (min (x / e) (2 ^ 8 - 1)) n (down_to (ltb→lt (x * d) (y * e) t)))
      (λ t. lt→ltb (x * d) (y * e) (up_to (ltb→lt (min (x / e) (2 ^ 8 - 1)) n t)))
    where
      same : y * e ≡ n * e * d
      same = ap (λ (z : ℕ). z * e) (sym (mul-one y) ∙ p) ∙ mul_right_comm n d e

      down_to : x * d < y * e → min (x / e) (2 ^ 8 - 1) < n
      down_to h = subst (λ (z : ℕ). z < n) (sym capped) ((div-lt_iff_lt-mul E).1 (lt_of_mul-lt-mul_right d (subst (λ (z : ℕ). x * d < z) same h)))

      up_to : min (x / e) (2 ^ 8 - 1) < n → x * d < y * e
      up_to h = subst (λ (z : ℕ). x * d < z) (sym same) (mul-lt-mul_of_pos_right ((div-lt_iff_lt-mul E).0 (subst (λ (z : ℕ). z < n) capped h)) D)

below : (x y : Float) (n : ℕ) → Upto 255 x → HasValue y false n 1 → lt x y ≡ ltb (cut_byte x) n
unfolding lt to_unsigned
below nan y n u v = absurd u
below (inf s) y n u v = absurd u
below (fin true m e) y n u v = absurd u
below (fin false m e) nan n u v = absurd v
below (fin false m e) (inf t) n u v = absurd v
below (fin false m e) (fin true p d) n u v = absurd (true≢false v.0)
below (fin false m e) (fin false p d) n u v = test (m * up e) (down e) (down_pos e) u (p * up d) (down d) n (down_pos d) v.1

pub cut_below : (x : Float) (n : ℕ) → Upto 255 x → n < 256 → lt x (byte_f n) ≡ ltb (cut_byte x) n
cut_below x n u h = below x (byte_f n) n u (byte_value n h)

-- what a comparison with a byte says of where the float is cut
module _ (x : Float) (n : ℕ) (u : Upto 255 x) (h : n < 256) where
  pub cut_lt : lt x (byte_f n) ≡ true → cut_byte x < n
  cut_lt e = ltb-true _ _ (sym (cut_below x n u h) ∙ e)

  pub cut_ge : lt x (byte_f n) ≡ false → n ≤ cut_byte x
  cut_ge e = ltb-false _ _ (sym (cut_below x n u h) ∙ e)
