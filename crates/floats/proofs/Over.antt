-- `over c z`, the f32 nearest to z / c. Where c is a power of two and z has at most 24 digits it is z / c exactly; sums, differences and products of such
-- are those of the whole numbers. None of them is -0. Assumes nothing.
use mathlib.Core.Path.{◌≡◌, refl, sym, ap, ◌∙◌, subst}
use Prim.Native.Nat.{ℕ, zero, suc, ◌+◌, ◌-◌, ◌*◌, ◌^◌, ◌≤◌, ◌<◌}
use native.Mathlib.Nat.{mul_assoc, mul-pos, lt_of_lt_of_le, add-zero, lt_irrefl}
use native.Mathlib.Omega.{arith}
use mathlib.Core.Bool.{Bool, true, false, not, ◌&&◌, cond}
use lib.IntN.{ℤ, pos, negsuc, neg_ℤ, nat_abs, sub_ℕ, ◌+ℤ◌, ◌-ℤ◌, ◌*ℤ◌}
use lib.Dec.{T, ltb, ltb→lt, nltb→le, lt→ltb, lit≤}
use lib.Pow.{pow-add, pow_pos, pow_mono, shl_lt}
use lib.Ieee.{Float, binary32, unlike, round, sum, add, sub, mul, of_int}
use lib.Ieee.Exact.{HasValue, round_exact}
use lib.Ieee.Digits.{back}
use Rattle.floats.specs.Over.{over, wholef}
use Rattle.floats.proofs.At.{add_at, sub_at, mul_at}

abbrev pub is_neg : ℤ → Bool
is_neg (pos n) = false
is_neg (negsuc n) = true

pub over_is : (c : ℕ) (z : ℤ) → over c z ≡ round binary32 (is_neg z) (nat_abs z) c
unfolding over
over_is c (pos n) = refl
over_is c (negsuc n) = refl

-- an integer `as f32` is `over 1`
pub of_int_over : (z : ℤ) → of_int binary32 z ≡ wholef z
unfolding of_int over
of_int_over (pos n) = refl
of_int_over (negsuc n) = refl

-- ---- the value is z / 2 ^ k
room : (k : ℕ) → k ≤ 149 → 24 + (149 - k) ≤ 277
room k h = omega arith

pub round_value : (s : Bool) (k n : ℕ) → k ≤ 149 → n < 2 ^ 24 → HasValue (round binary32 s n (2 ^ k)) s n (2 ^ k)
round_value s k n K N =
    round_exact binary32 s n (2 ^ k) n (149 - k) (pow_pos k) N (lt_of_lt_of_le (shl_lt 24 (149 - k) N) (pow_mono (room k K)))
    (ap (λ (x : ℕ). n * x) (ap (λ (x : ℕ). 2 ^ x) (sym (back 149 k K)) ∙ pow-add 2 (149 - k) k) ∙ sym (mul_assoc n (2 ^ (149 - k)) (2 ^ k)))

pub over_value : (k : ℕ) (z : ℤ) → k ≤ 149 → nat_abs z < 2 ^ 24 → HasValue (over (2 ^ k) z) (is_neg z) (nat_abs z) (2 ^ k)
over_value k z K N = subst (λ (x : Float). HasValue x (is_neg z) (nat_abs z) (2 ^ k)) (sym (over_is (2 ^ k) z)) (round_value (is_neg z) k (nat_abs z) K N)

-- ---- sums of whole numbers over c
push : (c : ℕ) (b : Bool) (x y : ℤ) → over c (cond b x y) ≡ cond b (over c x) (over c y)
push c true x y = refl
push c false x y = refl

-- x - y
pub sum_minus : (c x y : ℕ) → sum binary32 false x true y c ≡ over c (sub_ℕ x y)
unfolding sum over
sum_minus c x y = sym (push c (ltb x y) (negsuc (y - suc x)) (pos (x - y)) ∙ go (ltb x y) (ltb→lt x y))
  where
    one : (x y : ℕ) → x < y → suc (y - suc x) ≡ y - x
    one x y h = omega arith

    go : (b : Bool) → (T b → x < y)
        → cond b (round binary32 true (suc (y - suc x)) c) (round binary32 false (x - y) c) ≡ cond b (round binary32 true (y - x) c)
        (round binary32 false (x - y) c)
    go true h = ap (λ (z : ℕ). round binary32 true z c) (one x y (h tt))
    go false h = refl

-- - x + y
pub minus_sum : (c x y : ℕ) → sum binary32 true x false y c ≡ over c (sub_ℕ y x)
unfolding sum over
minus_sum c x y = go (ltb x y) (ltb y x) (ltb→lt x y) (ltb→lt y x) (nltb→le x y) (nltb→le y x) ∙ sym (push c (ltb y x) (negsuc (x - suc y)) (pos (y - x)))
  where
    one : (x y : ℕ) → x < y → suc (y - suc x) ≡ y - x
    one x y h = omega arith

    clash : x < y → y < x → ⊥
    clash h k = omega arith

    level : y ≤ x → x ≤ y → x - y ≡ y - x
    level h k = omega arith

    go : (b d : Bool) → (T b → x < y) → (T d → y < x) → (T (not b) → y ≤ x) → (T (not d) → x ≤ y)
        → cond b (round binary32 false (y - x) c) (round binary32 (true && d) (x - y) c) ≡ cond d (round binary32 true (suc (x - suc y)) c)
        (round binary32 false (y - x) c)
    go true true h k p q = absurd (clash (h tt) (k tt))
    go true false h k p q = refl
    go false true h k p q = ap (λ (z : ℕ). round binary32 true z c) (sym (one y x (k tt)))
    go false false h k p q = ap (λ (z : ℕ). round binary32 false z c) (level (p tt) (q tt))

suc_pos : (k : ℕ) → 0 < suc k
suc_pos k = omega arith

pub sum_over : (c : ℕ) (a b : ℤ) → sum binary32 (is_neg a) (nat_abs a) (is_neg b) (nat_abs b) c ≡ over c (a +ℤ b)
sum_over c (pos x) (pos y) = unfold sum over in refl
sum_over c (pos x) (negsuc y) = sum_minus c x (suc y)
sum_over c (negsuc x) (pos y) = minus_sum c (suc x) y
sum_over c (negsuc x) (negsuc y) = unfold sum over in ap (λ (z : ℕ). round binary32 true z c) (two x y)
  where
    two : (x y : ℕ) → suc x + suc y ≡ suc (suc (x + y))
    two x y = omega arith

pub add-over : (k : ℕ) (a b : ℤ) → k ≤ 149 → nat_abs a < 2 ^ 24 → nat_abs b < 2 ^ 24 → add binary32 (over (2 ^ k) a) (over (2 ^ k) b) ≡ over (2 ^ k) (a +ℤ b)
add-over k a b K A B =
    add_at binary32 (over (2 ^ k) a) (over (2 ^ k) b) (is_neg a) (is_neg b) (nat_abs a) (nat_abs b) (2 ^ k) (pow_pos k) (over_value k a K A) (over_value k b K B)
    ∙ sum_over (2 ^ k) a b

-- ---- differences
pub difference_over : (c : ℕ) (a b : ℤ) → sum binary32 (is_neg a) (nat_abs a) (not (is_neg b)) (nat_abs b) c ≡ over c (a -ℤ b)
difference_over c (pos x) (pos zero) = sum_minus c x 0 ∙ ap (λ (z : ℤ). over c z) (flat x)
  where
    pick : (b : Bool) (x y : ℤ) → (T b → ⊥) → cond b x y ≡ y
    pick true x y h = absurd (h tt)
    pick false x y h = refl

    none : (x : ℕ) → x < 0 → ⊥
    none x h = omega arith

    same : (x : ℕ) → x - 0 ≡ x + 0
    same x = omega arith

    flat : (x : ℕ) → sub_ℕ x 0 ≡ pos (x + 0)
    flat x = pick (ltb x 0) (negsuc (0 - suc x)) (pos (x - 0)) (λ t. none x (ltb→lt x 0 t)) ∙ ap pos (same x)
difference_over c (pos x) (pos (suc y)) = sum_over c (pos x) (negsuc y)
difference_over c (pos x) (negsuc y) = sum_over c (pos x) (pos (suc y))
difference_over c (negsuc x) (pos zero) =
    unfold sum over in ap (λ (z : ℕ). round binary32 true z c) (add-zero (suc x)) ∙ ap (λ (z : ℤ). over c z) (sym (whole x))
  where
    pick : (b : Bool) (x y : ℤ) → T b → cond b x y ≡ x
    pick true x y h = refl
    pick false x y h = absurd h

    same : (x : ℕ) → suc x - 1 ≡ x
    same x = omega arith

    whole : (x : ℕ) → sub_ℕ 0 (suc x) ≡ negsuc x
    whole x = pick (ltb 0 (suc x)) (negsuc (suc x - 1)) (pos (0 - suc x)) (lt→ltb 0 (suc x) (suc_pos x)) ∙ ap negsuc (same x)
difference_over c (negsuc x) (pos (suc y)) = sum_over c (negsuc x) (negsuc y)
difference_over c (negsuc x) (negsuc y) = sum_over c (negsuc x) (pos (suc y))

pub sub-over : (k : ℕ) (a b : ℤ) → k ≤ 149 → nat_abs a < 2 ^ 24 → nat_abs b < 2 ^ 24 → sub binary32 (over (2 ^ k) a) (over (2 ^ k) b) ≡ over (2 ^ k) (a -ℤ b)
sub-over k a b K A B =
    sub_at binary32 (over (2 ^ k) a) (over (2 ^ k) b) (is_neg a) (is_neg b) (nat_abs a) (nat_abs b) (2 ^ k) (pow_pos k) (over_value k a K A) (over_value k b K B)
    ∙ difference_over (2 ^ k) a b

pub whole_sub : (a b : ℤ) → nat_abs a < 2 ^ 24 → nat_abs b < 2 ^ 24 → sub binary32 (wholef a) (wholef b) ≡ wholef (a -ℤ b)
whole_sub a b A B = sub-over 0 a b (lit≤ tt) A B

-- ---- products by a number above 0: a product by 0 or by a negative number can be -0, where the other factor is negative or 0
pub scale_over : (c : ℕ) (a : ℤ) (w : ℕ) → 0 < w → round binary32 (unlike (is_neg a) false) (nat_abs a * w) c ≡ over c (a *ℤ pos w)
unfolding over
scale_over c (pos x) w W = refl
scale_over c (negsuc x) w W = go (suc x * w) (mul-pos (suc_pos x) W)
  where
    go : (n : ℕ) → 0 < n → round binary32 true n c ≡ over c (neg_ℤ (pos n))
    go zero h = absurd (lt_irrefl 0 h)
    go (suc n) h = refl

pub mul-over : (j k : ℕ) (a : ℤ) (w : ℕ) → j ≤ 149 → k ≤ 149 → nat_abs a < 2 ^ 24 → w < 2 ^ 24 → 0 < w
    → mul binary32 (over (2 ^ j) a) (over (2 ^ k) (pos w)) ≡ over (2 ^ j * 2 ^ k) (a *ℤ pos w)
mul-over j k a w J K A W P =
    mul_at binary32 (over (2 ^ j) a) (over (2 ^ k) (pos w)) (is_neg a) false (nat_abs a) (2 ^ j) w (2 ^ k) (pow_pos j) (pow_pos k) (over_value j a J A)
    (over_value k (pos w) K W)
    ∙ scale_over (2 ^ j * 2 ^ k) a w P
