-- Shares from 0 to 1. The two tests give the bound; what is clamped passes them, and clamping leaves those that pass as they are, -0 too.
-- Of a fraction n / L, rounded once, with L up to 2 ^ 18 the tests say exactly that 0 ≤ n ≤ L. Assumes nothing.
use mathlib.Core.Path.{◌≡◌, refl, sym, ap, ◌∙◌, subst}
use Prim.Native.Nat.{ℕ, zero, suc, ◌+◌, ◌*◌, ◌≤◌, ◌<◌, zero-le}
use native.Mathlib.Nat.{le_trans, le_of_eq, mul-one, zero-mul, mul-pos}
use native.Mathlib.Omega.{arith}
use mathlib.Core.Bool.{Bool, true, false, not, ◌&&◌, cond, true≢false}
use borrow.Author.Tests.{le-ltb, ne_eqb}
use lib.IntN.{negsuc}
use lib.Dec.{T, leb, ltb, eqb, leb→le, nleb→lt, leb-zero, ltb→lt, lt→ltb, nltb→le, eqb→eq, lit<}
use lib.Ieee.{Float, nan, inf, fin, binary32, up, down, round, neg, lt, eq, le, is_nan}
use lib.Ieee.Fits.{up_pos, down_pos, and_i, and_l, and_r, eq→eqb}
use lib.Ieee.Order.{le_of_values, round_mono}
use lib.Ieee.Positive as positives
use lib.Ieee.Scale.{round_same}
use Rattle.floats.specs.Bounds.{Within}
use Rattle.floats.specs.Bytes.{zero_f, one_f}
use Rattle.floats.specs.Whole.{val}
use Rattle.floats.proofs.At.{same_test}
use Rattle.floats.proofs.Within.{le_of_test, round-neg}
use Rattle.floats.proofs.Range.{flip, or_l}
use Rattle.mixing.specs.Lerp.{clamp_of, between, inside, minus_zero}

-- ---- the tests give the bound
cut : (x e : ℕ) → x * 1 ≤ 1 * 1 * e → x ≤ 1 * e
cut x e h = le_trans (le_of_eq (sym (mul-one x))) h

none : (x e : ℕ) → 0 * 1 * e ≡ x * 1 → x ≤ 1 * e
none x e h = le_trans (le_of_eq (sym (mul-one x) ∙ sym h ∙ ap (λ (z : ℕ). z * e) (zero-mul 1) ∙ zero-mul e)) zero-le

tests_within : (t : Float) → T (le zero_f t) → T (le t one_f) → Within 1 t
unfolding le
tests_within nan a b = absurd a
tests_within (inf true) a b = absurd a
tests_within (inf false) a b = absurd b
tests_within (fin true m e) a b =
    none (m * up e) (down e) (eqb→eq (0 * 1 * down e) (m * up e * 1) (and_l (eqb (0 * 1 * down e) (m * up e * 1)) (eqb (0 * 1 * down e) 0) a))
tests_within (fin false m e) a b = cut (m * up e) (down e) (le_of_test (m * up e * 1) (1 * 1 * down e) true b)

pub between_within : (t : Float) → between t ≡ true → Within 1 t
unfolding between
between_within t e = let h : T (between t) = subst T (sym e) tt in tests_within t (and_l (le zero_f t) (le t one_f) h) (and_r (le zero_f t) (le t one_f) h)

-- ---- clamping
pub zero_between : between zero_f ≡ true
unfolding between le
zero_between = refl

one_between : between one_f ≡ true
unfolding between le
one_between = refl

-- a number that is not below 0 is at least 0
at_least_0 : (t : Float) → T (not (is_nan t)) → lt t zero_f ≡ false → T (le zero_f t)
unfolding lt le is_nan
at_least_0 nan n h = absurd n
at_least_0 (inf true) n h = absurd (true≢false h)
at_least_0 (inf false) n h = tt
at_least_0 (fin true m e) n h = equal (m * up e) (down e) (subst (λ (b : Bool). T (not b)) (sym h) tt)
  where
    zeros : (x e : ℕ) → x * 1 + 0 * 1 * e ≤ 0 → 0 * 1 * e ≡ x * 1
    zeros x e k = omega (arith, zero-mul 1, zero-mul e)

    equal : (x e : ℕ) → T (not (ltb 0 (x * 1 + 0 * 1 * e))) → T (eqb (0 * 1 * e) (x * 1) && eqb (0 * 1 * e) 0)
    equal x e k =
        and_i (eqb (0 * 1 * e) (x * 1)) (eqb (0 * 1 * e) 0) (eq→eqb (zeros x e (nltb→le 0 (x * 1 + 0 * 1 * e) k)))
        (eq→eqb (ap (λ (z : ℕ). z * e) (zero-mul 1) ∙ zero-mul e))
at_least_0 (fin false m e) n h =
    le_of_values zero_f (fin false m e) 0 1 (m * up e) (down e) (lit< tt) (down_pos e) (refl, refl) (refl, refl)
    (le_trans (le_of_eq (zero-mul (down e))) zero-le)

-- and one that is not above 1 is at most 1
at_most_1 : (t : Float) → T (not (is_nan t)) → lt one_f t ≡ false → T (le t one_f)
unfolding lt le is_nan
at_most_1 nan n h = absurd n
at_most_1 (inf true) n h = tt
at_most_1 (inf false) n h = absurd (true≢false h)
at_most_1 (fin true m e) n h = or_l (ltb 0 (m * up e * 1 + 1 * 1 * down e)) _ (lt→ltb 0 (m * up e * 1 + 1 * 1 * down e) (some (m * up e) (down e) (down_pos e)))
  where
    some : (x e : ℕ) → 0 < e → 0 < x * 1 + 1 * 1 * e
    some x e E = omega arith
at_most_1 (fin false m e) n h =
    le_of_values (fin false m e) one_f (m * up e) (down e) 1 1 (down_pos e) (lit< tt) (refl, refl) (refl, refl)
    (over (m * up e) (down e) (subst (λ (b : Bool). T (not b)) (sym h) tt))
  where
    over : (x e : ℕ) → T (not (ltb (1 * 1 * e) (x * 1))) → x * 1 ≤ 1 * e
    over x e k = nltb→le (1 * 1 * e) (x * 1) k

-- what is clamped is from 0 to 1, whatever number it was
pub clamp_between : (t : Float) → T (not (is_nan t)) → between (clamp_of t) ≡ true
unfolding between clamp_of
clamp_between t n = go (lt t zero_f) (lt one_f t) refl refl
  where
    go : (u v : Bool) → lt t zero_f ≡ u → lt one_f t ≡ v → between (cond u zero_f (cond v one_f t)) ≡ true
    go true v p q = zero_between
    go false true p q = one_between
    go false false p q = same_test (between t) true (λ h. tt) (λ h. and_i (le zero_f t) (le t one_f) (at_least_0 t n p) (at_most_1 t n q))

-- what is at most another is not above it
not_above : (x y : Float) → T (le x y) → lt y x ≡ false
unfolding le lt eq
not_above nan y t = absurd t
not_above (inf s) nan t = absurd t
not_above (inf true) (inf true) t = refl
not_above (inf true) (inf false) t = refl
not_above (inf false) (inf true) t = absurd t
not_above (inf false) (inf false) t = refl
not_above (inf true) (fin u n d) t = refl
not_above (inf false) (fin u n d) t = absurd t
not_above (fin s m e) nan t = absurd t
not_above (fin s m e) (inf true) t = absurd t
not_above (fin s m e) (inf false) t = refl
not_above (fin false m e) (fin false n d) t = le-ltb (n * up d * down e) (m * up e * down d) (le_of_test (m * up e * down d) (n * up d * down e) true t)
not_above (fin true m e) (fin false n d) t = refl
not_above (fin false m e) (fin true n d) t = zeros (m * up e * down d) (n * up d * down e) t
  where
    sum : (a b : ℕ) → a ≡ b → a ≡ 0 → b + a ≤ 0
    sum a b p q = omega arith

    zeros : (a b : ℕ) → T (eqb a b && eqb a 0) → ltb 0 (b + a) ≡ false
    zeros a b u = le-ltb 0 (b + a) (sum a b (eqb→eq a b (and_l (eqb a b) (eqb a 0) u)) (eqb→eq a 0 (and_r (eqb a b) (eqb a 0) u)))
not_above (fin true m e) (fin true n d) t = le-ltb (m * up e * down d) (n * up d * down e) (flip (m * up e * down d) (n * up d * down e) true t)

pub clamp_stays : (t : Float) → between t ≡ true → clamp_of t ≡ t
unfolding between clamp_of
clamp_stays t e =
    let h : T (between t) = subst T (sym e) tt in
    rw (not_above zero_f t (and_l (le zero_f t) (le t one_f) h), not_above t one_f (and_r (le zero_f t) (le t one_f) h))

pub minus_zero-between : between minus_zero ≡ true
unfolding between le
minus_zero-between = refl

pub clamp_minus_zero : clamp_of minus_zero ≡ minus_zero
clamp_minus_zero = clamp_stays minus_zero minus_zero-between

-- ---- a rounded fraction
zero_is : round binary32 false 0 1 ≡ zero_f
unfolding round
zero_is = refl

minus_zero_is : round binary32 true 0 1 ≡ minus_zero
unfolding round
minus_zero_is = refl

one_is : round binary32 false 1 1 ≡ one_f
unfolding round
one_is = refl

-- the least fraction with such a denominator is at least this, and the least above 1 at least that
least : Float
least = fin false 1 (negsuc 17)

least_is : round binary32 false 1 262144 ≡ least
unfolding round least
least_is = refl

next : Float
next = fin false 262145 (negsuc 17)

next_is : round binary32 false 262145 262144 ≡ next
unfolding round next
next_is = refl

next_above : T (le next one_f) → ⊥
unfolding le next
next_above t = t

-- a number above 0 with its sign changed is not at least 0
below_zero : (x : Float) → T (positives.above x) → le zero_f (neg x) ≡ false
unfolding le neg
below_zero nan h = absurd h
below_zero (inf true) h = absurd h
below_zero (inf false) h = refl
below_zero (fin true m e) h = absurd h
below_zero (fin false m e) h = other (m * up e) (down e) (mul-pos (ltb→lt 0 m h) (up_pos e))
  where
    clash : (p q : ℕ) → 0 < p → 0 * 1 * q ≡ p * 1 → ⊥
    clash p q P h = omega (arith, zero-mul 1, zero-mul q)

    other : (p q : ℕ) → 0 < p → eqb (0 * 1 * q) (p * 1) && eqb (0 * 1 * q) 0 ≡ false
    other p q P = rw (ne_eqb (0 * 1 * q) (p * 1) (clash p q P))

module _ (L : ℕ) (P : 0 < L) (Q : L ≤ 262144) where
  -- not below 0
  low : (n : ℕ) → T (le zero_f (round binary32 false n L))
  low n = subst (λ (z : Float). T (le z (round binary32 false n L))) zero_is (round_mono binary32 0 1 n L (lit< tt) P (zero n))
    where
      zero : (n : ℕ) → 0 * L ≤ n * 1
      zero n = omega arith

  -- at most 1, where n is at most L
  high : (n : ℕ) → n ≤ L → T (le (round binary32 false n L) one_f)
  high n h = subst (λ (z : Float). T (le (round binary32 false n L) z)) one_is (round_mono binary32 n L 1 1 P (lit< tt) (omega arith))

  -- above 1, where it is not
  beyond : (n : ℕ) → L < n → T (le (round binary32 false n L) one_f) → ⊥
  unfolding next
  beyond n h t =
      let x = round binary32 false n L in
      let a : T (le next x) = subst (λ (z : Float). T (le z x)) next_is (round_mono binary32 262145 262144 n L (lit< tt) P (omega arith)) in
      next_above (positives.le_trans_positive next x one_f tt (positives.between next x one_f tt tt a t) tt a t)

  between_plus : (n : ℕ) → between (round binary32 false n L) ≡ leb n L
  unfolding between
  between_plus n =
      let x = round binary32 false n L in
      same_test (between x) (leb n L) (λ t. go (leb n L) (nleb→lt n L) (and_r (le zero_f x) (le x one_f) t))
      (λ t. and_i (le zero_f x) (le x one_f) (low n) (high n (leb→le n L t)))
    where
      go : (b : Bool) → (T (not b) → L < n) → T (le (round binary32 false n L) one_f) → T b
      go true h t = tt
      go false h t = beyond n (h tt) t

  between_minus : (n : ℕ) → between (round binary32 true (suc n) L) ≡ false
  unfolding between least
  between_minus n =
      let x = round binary32 false (suc n) L in
      let a : T (le least x) = subst (λ (z : Float). T (le z x)) least_is (round_mono binary32 1 262144 (suc n) L (lit< tt) P (omega arith)) in
      rw (round-neg binary32 (suc n) L, below_zero x (positives.above_of_le least x tt a))

  pub between-round : (s : Bool) (n : ℕ) → between (round binary32 s n L) ≡ inside (val s n) L
  between-round false n = between_plus n
  between-round true zero = rw (round_same binary32 true 0 L 0 1 P (lit< tt) (zero-mul 1 ∙ sym (zero-mul L)), minus_zero_is, minus_zero-between, leb-zero L)
  between-round true (suc n) = between_minus n
