-- Sixteenths, as the original's error cells are: each is `sixteenths n`, never -0; a send adds weight times residual; sixteen times one is a whole number
-- that casts to an i32. Assumes nothing.
use mathlib.Core.Path.{◌≡◌, refl, sym, ap, ◌∙◌, subst}
use Prim.Native.Nat.{ℕ, zero, suc, ◌*◌, ◌^◌, ◌≤◌, ◌<◌}
use native.Mathlib.Nat.{mul_assoc, mul_comm, mul-pos, lt_of_lt_of_le, lt_of_le_of_lt, mul-le-mul, le_of_lt, lt_irrefl}
use native.Mathlib.Omega.{arith}
use mathlib.Core.Bool.{true}
use lib.IntN.{ℤ, pos, negsuc, neg_ℤ, nat_abs, ◌+ℤ◌, ◌*ℤ◌}
use lib.Dec.{T, le→leb, lit<, lit≤}
use lib.Ieee.{Float, binary32, round, add, mul, of_int, of_bits, in_signed, to_signed, in_float}
use lib.Ieee.Back.{positive_back, negative_back}
use lib.Ieee.Scale.{round_same}
use Rattle.floats.specs.Over.{over, sixteenths, wholef}
use Rattle.floats.specs.Cells.{Cell}
use Rattle.floats.proofs.Over.{is_neg, over_is, add-over, mul-over, of_int_over}

-- ---- one fraction, with another denominator
scaled : (z : ℤ) (d : ℕ) → 0 < d → (is_neg (z *ℤ pos d) ≡ is_neg z) × (nat_abs (z *ℤ pos d) ≡ nat_abs z * d)
scaled (pos n) d D = (refl, refl)
scaled (negsuc n) d D = go (suc n * d) (mul-pos (suc_pos n) D)
  where
    suc_pos : (k : ℕ) → 0 < suc k
    suc_pos k = omega arith

    go : (m : ℕ) → 0 < m → (is_neg (neg_ℤ (pos m)) ≡ true) × (nat_abs (neg_ℤ (pos m)) ≡ m)
    go zero h = absurd (lt_irrefl 0 h)
    go (suc m) h = (refl, refl)

pub over_scale : (c : ℕ) (z : ℤ) (d : ℕ) → 0 < c → 0 < d → over (c * d) (z *ℤ pos d) ≡ over c z
over_scale c z d C D =
    let k = scaled z d D in
    over_is (c * d) (z *ℤ pos d)
    ∙ (λ i. round binary32 (k.0 i) (k.1 i) (c * d))
    ∙ round_same binary32 (is_neg z) (nat_abs z * d) (c * d) (nat_abs z) c (mul-pos C D) C (mul_assoc (nat_abs z) d c ∙ ap (λ (x : ℕ). nat_abs z * x) (mul_comm d c))
    ∙ sym (over_is c z)

pub whole_sixteenths : (z : ℤ) → wholef z ≡ sixteenths (z *ℤ pos 16)
whole_sixteenths z = sym (over_scale 1 z 16 (lit< tt) (lit< tt))

-- ---- the laws of sixteenths
pub sixteenths-add : (n m : ℤ) → nat_abs n < 2 ^ 24 → nat_abs m < 2 ^ 24 → add binary32 (sixteenths n) (sixteenths m) ≡ sixteenths (n +ℤ m)
sixteenths-add n m N M = add-over 4 n m (lit≤ tt) N M

pub sixteenths_weight : (r : ℤ) (w : ℕ) → nat_abs r < 2 ^ 24 → w < 2 ^ 24 → 0 < w → mul binary32 (wholef r) (sixteenths (pos w)) ≡ sixteenths (r *ℤ pos w)
sixteenths_weight r w R W P = mul-over 0 4 r w (lit≤ tt) (lit≤ tt) R W P

-- ---- times 16
pub sixteen : of_bits binary32 0x4180_0000 ≡ wholef (pos 16)
unfolding of_bits over round
sixteen = refl

pub sixteenths_by_16 : (z : ℤ) → nat_abs z < 2 ^ 24 → mul binary32 (sixteenths z) (wholef (pos 16)) ≡ wholef z
sixteenths_by_16 z Z = mul-over 4 0 z 16 (lit≤ tt) (lit≤ tt) Z (lit< tt) (lit< tt) ∙ over_scale 1 z 16 (lit< tt) (lit< tt)

-- ---- the cast of a whole number to an i32
pub whole_cast : (z : ℤ) → nat_abs z < 2 ^ 24 → T (in_signed binary32 31 (wholef z)) × (to_signed 31 (wholef z) ≡ z)
whole_cast z Z = subst (λ (x : Float). T (in_signed binary32 31 x) × (to_signed 31 x ≡ z)) (of_int_over z) (back z Z)
  where
    back : (z : ℤ) → nat_abs z < 2 ^ 24 → T (in_signed binary32 31 (of_int binary32 z)) × (to_signed 31 (of_int binary32 z) ≡ z)
    back (pos n) h = positive_back binary32 31 n (unfold in_float in le→leb n (2 ^ 24) (le_of_lt h)) (lt_of_lt_of_le h (lit≤ tt))
    back (negsuc n) h = negative_back binary32 31 n (unfold in_float in le→leb (suc n) (2 ^ 24) (le_of_lt h)) (le_of_lt (lt_of_lt_of_le h (lit≤ tt)))

cell_small : (n : ℤ) → nat_abs n ≤ 65536 → nat_abs n < 2 ^ 24
cell_small n h = omega arith

residual_small : (r : ℤ) → nat_abs r ≤ 255 → nat_abs r < 2 ^ 24
residual_small r h = omega arith

weight_small : (w : ℕ) → w ≤ 16 → w < 2 ^ 24
weight_small w h = omega arith

-- ---- a send: weight times residual is added to a cell
pub send : (x y v : Float) (n r : ℤ) (w : ℕ) → Cell 65536 x n → y ≡ wholef r → nat_abs r ≤ 255 → v ≡ sixteenths (pos w) → 0 < w → w ≤ 16
    → add binary32 x (mul binary32 y v) ≡ sixteenths (n +ℤ r *ℤ pos w)
send x y v n r w h p R q W L =
    (λ i. add binary32 (h.is i) (mul binary32 (p i) (q i)))
    ∙ ap (λ (z : Float). add binary32 (sixteenths n) z) (sixteenths_weight r w (residual_small r R) (weight_small w L) W)
    ∙ sixteenths-add n (r *ℤ pos w) (cell_small n h.small)
    (lt_of_le_of_lt (subst (λ (k : ℕ). k ≤ 255 * 16) (sym (scaled r w W).1) (mul-le-mul R L)) (lit< tt))
