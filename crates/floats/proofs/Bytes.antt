-- Bytes as f32 values: each is exact and from 0 to 255, and so is the difference of two from -255 to 255. Assumes nothing.
use mathlib.Core.Path.{◌≡◌, sym, ◌∙◌, subst}
use Prim.Native.Nat.{ℕ, ◌^◌, ◌≤◌, ◌<◌}
use native.Mathlib.Nat.{le_trans, le_of_eq, mul-one}
use native.Mathlib.Omega.{arith}
use mathlib.Core.Bool.{false}
use lib.IntN.{pos, nat_abs}
use lib.Dec.{lit≤, lit<}
use lib.Ieee.{Float, binary32, sub, of_int}
use Rattle.floats.specs.Over.{wholef}
use Rattle.floats.specs.Whole.{Whole}
use Rattle.floats.specs.Bounds.{Within}
use Rattle.floats.specs.Bytes.{byte_f, diff}
use Rattle.floats.proofs.Int.{difference_bound}
use Rattle.floats.proofs.Over.{of_int_over, whole_sub}
use Rattle.floats.proofs.Within.{round_within, sub_within}
use Rattle.floats.proofs.Whole.{whole_of}
use Rattle.floats.proofs.Dot.{Triple}

upto_255 : (n : ℕ) → n < 256 → n ≤ 255
upto_255 n h = omega arith

fits_24 : (n : ℕ) → n < 256 → n < 2 ^ 24
fits_24 n h = omega arith

pub byte_is : (n : ℕ) → byte_f n ≡ wholef (pos n)
unfolding byte_f
byte_is n = of_int_over (pos n)

pub byte_within : (n : ℕ) → n < 256 → Within 255 (byte_f n)
unfolding byte_f of_int
byte_within n h = round_within false 255 n 1 (lit< tt) (lit≤ tt) (le_trans (upto_255 n h) (le_of_eq (sym (mul-one 255))))

pub diff_size : (a b : ℕ) → a < 256 → b < 256 → nat_abs (diff a b) ≤ 255
diff_size a b A B = difference_bound a b 255 (upto_255 a A) (upto_255 b B)

pub diff_is : (a b : ℕ) → a < 256 → b < 256 → sub binary32 (byte_f a) (byte_f b) ≡ wholef (diff a b)
diff_is a b A B = (λ i. sub binary32 (byte_is a i) (byte_is b i)) ∙ whole_sub (pos a) (pos b) (fits_24 a A) (fits_24 b B)

pub diff_whole : (a b : ℕ) → a < 256 → b < 256 → Whole (diff a b) (sub binary32 (byte_f a) (byte_f b))
diff_whole a b A B = subst (λ (x : Float). Whole (diff a b) x) (sym (diff_is a b A B)) (whole_of (diff a b))

pub diff_within : (a b : ℕ) → a < 256 → b < 256 → Within 510 (sub binary32 (byte_f a) (byte_f b))
diff_within a b A B = sub_within 255 255 (byte_f a) (byte_f b) (lit≤ tt) (byte_within a A) (byte_within b B)

-- the differences of the bytes of two colours
pub diffs : (r g b r' g' b' : ℕ) → r < 256 → g < 256 → b < 256 → r' < 256 → g' < 256 → b' < 256
    → Triple (diff r r') (diff g g') (diff b b') (sub binary32 (byte_f r) (byte_f r')) (sub binary32 (byte_f g) (byte_f g')) (sub binary32 (byte_f b) (byte_f b'))
diffs r g b r' g' b' R G B R' G' B' = record {
  first = diff_whole r r' R R';
  second = diff_whole g g' G G';
  third = diff_whole b b' B B';
  first_small = diff_size r r' R R';
  second_small = diff_size g g' G G';
  third_small = diff_size b b' B B';
}
