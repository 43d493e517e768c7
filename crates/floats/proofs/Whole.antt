-- Whole numbers below 2 ^ 24 as f32 values: sums and products are exact, and one that is zero can be -0. The quotient of two is rounded once.
-- Assumes nothing.
use mathlib.Core.Path.{◌≡◌, refl, sym, ap, ◌∙◌, subst}
use mathlib.Core.Logic.{◌⊎◌, inl, inr}
use Prim.Native.Nat.{ℕ, zero, suc, ◌+◌, ◌-◌, ◌*◌, ◌^◌, ◌≤◌, ◌<◌}
use native.Mathlib.Nat.{le_trans, le_of_eq, lt_of_le_of_lt, mul-one, mul-zero, zero-mul, mul-le-mul_left, le_of_lt, add-zero, zero-add}
use native.Mathlib.Omega.{arith}
use mathlib.Core.Bool.{Bool, true, false, cond, false≢true}
use lib.IntN.{ℤ, pos, negsuc, neg_ℤ, nat_abs, sub_ℕ, ◌+ℤ◌, ◌*ℤ◌, neg_ℤ-+ℤ}
use lib.Dec.{T, ltb, ltb→lt, lit≤, lit<}
use lib.Ieee.{Float, nan, inf, fin, binary32, unlike, round, sum, add, mul, div, of_int, of_bits}
use lib.Ieee.Exact.{HasValue}
use lib.Ieee.Scale.{round_same}
use Rattle.floats.specs.Over.{over, wholef, millionths}
use Rattle.floats.specs.Whole.{val, Whole}
use Rattle.floats.specs.Bounds.{Within, Upto}
use Rattle.floats.proofs.At.{add_at, mul_at, div_at}
use Rattle.floats.proofs.Over.{is_neg, over_is, over_value, round_value, sum_minus, minus_sum, of_int_over}
use Rattle.floats.proofs.Within.{round_within, round_signed, Signed}

-- ---- signed sizes
pub val_size : (s : Bool) (n : ℕ) → nat_abs (val s n) ≡ n
val_size false n = refl
val_size true zero = refl
val_size true (suc n) = refl

pub val_of : (z : ℤ) → val (is_neg z) (nat_abs z) ≡ z
val_of (pos n) = refl
val_of (negsuc n) = refl

neg_zero : (n : ℕ) → n ≡ 0 → neg_ℤ (pos n) ≡ pos n
neg_zero zero h = refl
neg_zero (suc n) h = absurd (no n h)
  where
    no : (n : ℕ) → suc n ≡ 0 → ⊥
    no n h = omega arith

val-mul : (s t : Bool) (a b : ℕ) → val (unlike s t) (a * b) ≡ val s a *ℤ val t b
val-mul false false a b = refl
val-mul false true a zero = neg_zero (a * 0) (mul-zero a)
val-mul false true a (suc b) = refl
val-mul true false zero b = neg_zero (0 * b) (zero-mul b)
val-mul true false (suc a) b = refl
val-mul true true zero zero = refl
val-mul true true zero (suc b) = ap pos (zero-mul (suc b)) ∙ sym (ap (λ (k : ℕ). neg_ℤ (pos k)) (zero-mul (suc b)))
val-mul true true (suc a) zero = ap pos (mul-zero (suc a)) ∙ sym (ap (λ (k : ℕ). neg_ℤ (pos k)) (mul-zero (suc a)))
val-mul true true (suc a) (suc b) = refl

sub_zero : (a : ℕ) → sub_ℕ a 0 ≡ pos a
sub_zero a = go (ltb a 0) (ltb→lt a 0)
  where
    none : (n : ℕ) → n < 0 → ⊥
    none n h = omega arith

    same : (n : ℕ) → n - 0 ≡ n
    same n = omega arith

    go : (t : Bool) → (T t → a < 0) → cond t (negsuc (0 - suc a)) (pos (a - 0)) ≡ pos a
    go true h = absurd (none a (h tt))
    go false h = ap pos (same a)

sub_val : (a b : ℕ) → sub_ℕ a b ≡ pos a +ℤ neg_ℤ (pos b)
sub_val a zero = sub_zero a ∙ ap pos (sym (add-zero a))
sub_val a (suc b) = refl

val-sub : (a b : ℕ) → sub_ℕ b a ≡ neg_ℤ (pos a) +ℤ pos b
val-sub zero b = sub_zero b ∙ ap pos (sym (zero-add b))
val-sub (suc a) b = refl

-- ---- `Whole`
pub whole_of : (z : ℤ) → Whole z (wholef z)
whole_of z = record { sign = is_neg z; size = nat_abs z; is = over_is 1 z; value = val_of z }

pub whole_size : (z : ℤ) (x : Float) (w : Whole z x) → w.size ≡ nat_abs z
whole_size z x w = sym (val_size w.sign w.size) ∙ ap nat_abs w.value

pub whole_value : (z : ℤ) (x : Float) (w : Whole z x) → nat_abs z < 2 ^ 24 → HasValue x w.sign w.size 1
whole_value z x w h =
    subst (λ (v : Float). HasValue v w.sign w.size 1) (sym w.is)
    (round_value w.sign 0 w.size (lit≤ tt) (subst (λ (k : ℕ). k < 2 ^ 24) (sym (whole_size z x w)) h))

-- ---- products
pub whole_mul : (a b : ℤ) (x y : Float) → nat_abs a < 2 ^ 24 → nat_abs b < 2 ^ 24 → Whole a x → Whole b y → Whole (a *ℤ b) (mul binary32 x y)
whole_mul a b x y A B h k = record {
  sign = unlike h.sign k.sign;
  size = h.size * k.size;
  is = mul_at binary32 x y h.sign k.sign h.size 1 k.size 1 (lit< tt) (lit< tt) (whole_value a x h A) (whole_value b y k B);
  value = val-mul h.sign k.sign h.size k.size ∙ (λ i. h.value i *ℤ k.value i);
}

-- ---- sums
whole_over : (z : ℤ) (x : Float) → x ≡ over 1 z → Whole z x
whole_over z x e = record { sign = is_neg z; size = nat_abs z; is = e ∙ over_is 1 z; value = val_of z }

sum_whole : (s t : Bool) (a b : ℕ) → Whole (val s a +ℤ val t b) (sum binary32 s a t b 1)
unfolding sum
sum_whole false false a b = record { sign = false; size = a + b; is = refl; value = refl }
sum_whole true true a b = record { sign = true; size = a + b; is = refl; value = neg_ℤ-+ℤ (pos a) (pos b) }
sum_whole false true a b = whole_over (pos a +ℤ neg_ℤ (pos b)) (sum binary32 false a true b 1) (sum_minus 1 a b ∙ ap (λ (z : ℤ). over 1 z) (sub_val a b))
sum_whole true false a b = whole_over (neg_ℤ (pos a) +ℤ pos b) (sum binary32 true a false b 1) (minus_sum 1 a b ∙ ap (λ (z : ℤ). over 1 z) (val-sub a b))

pub whole_add : (a b : ℤ) (x y : Float) → nat_abs a < 2 ^ 24 → nat_abs b < 2 ^ 24 → Whole a x → Whole b y → Whole (a +ℤ b) (add binary32 x y)
whole_add a b x y A B h k =
    subst (λ (v : Float). Whole (a +ℤ b) v) (sym
    (add_at binary32 x y h.sign k.sign h.size k.size 1 (lit< tt) (whole_value a x h A) (whole_value b y k B)))
    (subst (λ (z : ℤ). Whole z (sum binary32 h.sign h.size k.sign k.size 1)) (λ i. h.value i +ℤ k.value i)
    (sum_whole h.sign k.sign h.size k.size))

minus_zero_lem : round binary32 true 0 1 ≡ fin true 0 (pos 0)
unfolding round
minus_zero_lem = refl

-- ---- a whole number that is not negative and not -0
pub whole_plain : (A : ℕ) (z : ℤ) (x : Float) → Whole z x → Upto A x → x ≡ wholef z
whole_plain A z x w u = go w.sign w.size w.is w.value
  where
    no : (v : Float) → Signed true v → Upto A v → ⊥
    no nan s h = h
    no (inf t) s h = h
    no (fin true m e) s h = h
    no (fin false m e) s h = false≢true s

    go : (s : Bool) (n : ℕ) → x ≡ round binary32 s n 1 → val s n ≡ z → x ≡ wholef z
    go false n e v = e ∙ sym (over_is 1 (pos n)) ∙ ap (λ (y : ℤ). over 1 y) v
    go true n e v = absurd (no (round binary32 true n 1) (round_signed binary32 true n 1) (subst (λ (y : Float). Upto A y) e u))

-- ---- quotients by a whole number above 0
same_sign : (s : Bool) → unlike s false ≡ s
same_sign true = refl
same_sign false = refl

pub whole_div : (a : ℤ) (L : ℕ) (x : Float) (w : Whole a x) → nat_abs a < 2 ^ 24 → 0 < L → L < 2 ^ 24
    → div binary32 x (wholef (pos L)) ≡ round binary32 w.sign w.size L
whole_div a L x w A P Q =
    div_at binary32 x (wholef (pos L)) w.sign false w.size 1 L 1 (lit< tt) (lit< tt) P (whole_value a x w A) (over_value 0 (pos L) (lit≤ tt) Q)
    ∙ (λ i. round binary32 (same_sign w.sign i) (mul-one w.size i) (mul-one L i))

-- the quotient is a / L, rounded once; where a is 0 it can be -0
pub quotient : (a : ℤ) (L : ℕ) (x : Float) → Whole a x → nat_abs a < 2 ^ 24 → 0 < L → L < 2 ^ 24
    → (div binary32 x (wholef (pos L)) ≡ over L a) ⊎ ((a ≡ pos 0) × (div binary32 x (wholef (pos L)) ≡ fin true 0 (pos 0)))
quotient a L x w A P Q = go w.sign w.size w.value (whole_div a L x w A P Q)
  where
    zero_of : round binary32 true 0 L ≡ fin true 0 (pos 0)
    zero_of = round_same binary32 true 0 L 0 1 P (lit< tt) (zero-mul 1 ∙ sym (zero-mul L)) ∙ minus_zero_lem

    go : (s : Bool) (n : ℕ) → val s n ≡ a → div binary32 x (wholef (pos L)) ≡ round binary32 s n L
        → (div binary32 x (wholef (pos L)) ≡ over L a) ⊎ ((a ≡ pos 0) × (div binary32 x (wholef (pos L)) ≡ fin true 0 (pos 0)))
    go false n v e = inl (e ∙ sym (over_is L (pos n)) ∙ ap (λ (y : ℤ). over L y) v)
    go true zero v e = inr (sym v, e ∙ zero_of)
    go true (suc n) v e = inl (e ∙ sym (over_is L (negsuc n)) ∙ ap (λ (y : ℤ). over L y) v)

pub quotient_within : (A : ℕ) (a : ℤ) (L : ℕ) (x : Float) → Whole a x → nat_abs a ≤ A → A < 2 ^ 24 → 0 < L → L < 2 ^ 24
    → Within A (div binary32 x (wholef (pos L)))
quotient_within A a L x w h H P Q =
    subst (λ (v : Float). Within A v) (sym (whole_div a L x w (lt_of_le_of_lt h H) P Q))
    (round_within w.sign A w.size L P (le_of_lt H)
    (le_trans (le_of_eq (whole_size a x w)) (le_trans h (le_trans (le_of_eq (sym (mul-one A))) (mul-le-mul_left A P)))))

-- ---- millionths: a whole number over a million, rounded once, is from -2 to 2
million : of_bits binary32 0x4974_2400 ≡ wholef (pos 1000000)
unfolding of_bits over round
million = refl

pub millionths_of_lem : (n : ℤ) → nat_abs n < 2 ^ 24 → div binary32 (of_int binary32 n) (of_bits binary32 0x4974_2400) ≡ millionths n
unfolding whole_of
millionths_of_lem n N =
    (λ i. div binary32 (of_int_over n i) (million i)) ∙ whole_div n 1000000 (wholef n) (whole_of n) N (lit< tt) (lit< tt) ∙ sym (over_is 1000000 n)

pub millionths_within : (n : ℤ) → nat_abs n ≤ 2000000 → Within 2 (millionths n)
millionths_within n h = subst (λ (v : Float). Within 2 v) (sym (over_is 1000000 n)) (round_within (is_neg n) 2 (nat_abs n) 1000000 (lit< tt) (lit≤ tt) h)
