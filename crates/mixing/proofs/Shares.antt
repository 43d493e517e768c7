-- `lerp` of bytes. Numerator and denominator are whole numbers that f32 holds, so the unclamped share is their quotient, rounded once: never a NaN,
-- 0 where the ends have equal rgb, -0 only where the numerator is 0; and it is from 0 to 1 exactly where 0 ≤ numerator ≤ denominator, and clamped always.
-- Assumes nothing.
use mathlib.Core.Path.{◌≡◌, refl, sym, ap, ◌∙◌, subst}
use mathlib.Core.Logic.{◌⊎◌, inl, inr}
use Prim.Native.Nat.{ℕ, zero, suc, ◌+◌, ◌*◌, ◌^◌, ◌≤◌, ◌<◌}
use native.Mathlib.Nat.{le_trans, lt_of_le_of_lt, eq-zero-or-pos, mul-pos, zero-lt-suc, zero-mul, lt_irrefl}
use native.Mathlib.Omega.{arith}
use mathlib.Core.Bool.{true, false, not, ◌&&◌, true≢false}
use borrow.Author.Tests.{ne_eqb}
use lib.IntN.{ℤ, pos, negsuc, nat_abs, ◌+ℤ◌, +ℤ_invr, +ℤ_idl, -ℤ-+ℤ_cancel, *ℤ-zero}
use lib.Dec.{T, eqb, eqb→eq, lit≤, lit<}
use lib.Ieee.{Float, nan, inf, fin, binary32, up, down, div, eq, is_nan}
use lib.Ieee.Exact.{HasValue}
use lib.Ieee.Fits.{down_pos, and_i, and_l, eq→eqb}
use Rattle.color.specs.declared.NormalizedColor.{NormalizedColor}
use Rattle.floats.specs.Over.{over, wholef}
use Rattle.floats.specs.Bounds.{Within}
use Rattle.floats.specs.Whole.{Whole}
use Rattle.floats.specs.Bytes.{zero_f, diff, dotℤ}
use Rattle.floats.proofs.At.{same_test}
use Rattle.floats.proofs.Over.{over_value}
use Rattle.floats.proofs.Order.{within_not_nan}
use Rattle.floats.proofs.Whole.{whole_plain, whole_div, quotient, quotient_within}
use Rattle.floats.proofs.Dot.{Triple, dot_whole, dot_bound, square-dot, square, squares}
use Rattle.floats.proofs.Bytes.{diffs, diff_within}
use Rattle.mixing.specs.Lerp.{byte_minus, along, share_of, lerp_of, between, minus_zero, Bytes, EqualRgb, numerator, denominator, inside}
use Rattle.mixing.proofs.Between.{zero_between, clamp_between, between-round}

-- ---- whole numbers
no_difference : (a b : ℕ) → b ≡ a → diff a b ≡ pos 0
no_difference a b h = ap (λ (k : ℕ). diff a k) h ∙ +ℤ_invr (pos a)

zero_difference : (a b : ℕ) → diff a b ≡ pos 0 → b ≡ a
zero_difference a b h = sym (ap nat_abs (sym (-ℤ-+ℤ_cancel (pos a) (pos b)) ∙ ap (λ (z : ℤ). z +ℤ pos b) h ∙ +ℤ_idl (pos b)))

no_size : (z : ℤ) → nat_abs z * nat_abs z ≡ 0 → z ≡ pos 0
no_size (pos zero) h = refl
no_size (pos (suc n)) h = absurd (lt_irrefl 0 (subst (λ (k : ℕ). 0 < k) h (mul-pos (zero-lt-suc n) (zero-lt-suc n))))
no_size (negsuc n) h = absurd (lt_irrefl 0 (subst (λ (k : ℕ). 0 < k) h (mul-pos (zero-lt-suc n) (zero-lt-suc n))))

-- a sum of squares is 0 only where each number is
no_length : (x y z : ℤ) → nat_abs (dotℤ x y z x y z) ≡ 0 → (x ≡ pos 0) × (y ≡ pos 0) × (z ≡ pos 0)
no_length x y z h =
    let e : nat_abs x * nat_abs x + nat_abs y * nat_abs y + nat_abs z * nat_abs z ≡ 0 = sym (λ i. nat_abs (square x i +ℤ square y i +ℤ square z i)) ∙ h in
    (no_size x (omega arith), no_size y (omega arith), no_size z (omega arith))

-- a value compared with +0.0
eq_zero : (x : Float) (a : ℕ) → HasValue x false a 1 → eq x zero_f ≡ eqb a 0
unfolding eq
eq_zero nan a h = absurd h
eq_zero (inf s) a h = absurd h
eq_zero (fin true m e) a h = absurd (true≢false h.0)
eq_zero (fin false m e) a h =
    same_test (eqb (m * up e * 1) (0 * 1 * down e) && true) (eqb a 0)
    (λ t. eq→eqb (first_zero a (down e) (down_pos e)
    (sym h.1 ∙ eqb→eq (m * up e * 1) (0 * 1 * down e) (and_l (eqb (m * up e * 1) (0 * 1 * down e)) true t) ∙ ap (λ (z : ℕ). z * down e) (zero-mul 1)
    ∙ zero-mul (down e))))
    (λ t. and_i (eqb (m * up e * 1) (0 * 1 * down e)) true
    (eq→eqb (h.1 ∙ ap (λ (z : ℕ). z * down e) (eqb→eq a 0 t) ∙ ap (λ (z : ℕ). z * down e) (sym (zero-mul 1)))) tt)
  where
    first_zero : (p q : ℕ) → 0 < q → p * q ≡ 0 → p ≡ 0
    first_zero zero q Q k = refl
    first_zero (suc p) q Q k = absurd (lt_irrefl 0 (subst (λ (z : ℕ). 0 < z) k (mul-pos (zero-lt-suc p) Q)))

-- ---- the ends
module _ (c1 c2 : NormalizedColor) where
  pub denominator_is : numerator c1 c2 c2 ≡ pos (denominator c1 c2)
  unfolding numerator denominator
  denominator_is = squares (diff c2.0.r c1.0.r) (diff c2.0.g c1.0.g) (diff c2.0.b c1.0.b)

  -- the denominator is 0 exactly where the ends have equal rgb
  pub zero_of_equal : EqualRgb c1 c2 → denominator c1 c2 ≡ 0
  unfolding numerator denominator
  zero_of_equal h =
      let r = no_difference c2.0.r c1.0.r h.r in
      let g = no_difference c2.0.g c1.0.g h.g in
      let b = no_difference c2.0.b c1.0.b h.b in
      λ i. nat_abs (dotℤ (r i) (g i) (b i) (r i) (g i) (b i))

  pub equal_of_zero : denominator c1 c2 ≡ 0 → EqualRgb c1 c2
  unfolding numerator denominator
  equal_of_zero h =
      let z = no_length (diff c2.0.r c1.0.r) (diff c2.0.g c1.0.g) (diff c2.0.b c1.0.b) h in
      record { r = zero_difference _ _ z.0; g = zero_difference _ _ z.1; b = zero_difference _ _ z.2 }

  -- and then so is every numerator
  no_numerator : (color : NormalizedColor) → denominator c1 c2 ≡ 0 → numerator c1 c2 color ≡ pos 0
  unfolding numerator denominator
  no_numerator color h =
      let z = no_length (diff c2.0.r c1.0.r) (diff c2.0.g c1.0.g) (diff c2.0.b c1.0.b) h in
      rw (z.0, z.1, z.2) (simp *ℤ-zero)

-- the differences of two colours of bytes
apart : (c d : NormalizedColor) → Bytes c → Bytes d
    → Triple (diff c.0.r d.0.r) (diff c.0.g d.0.g) (diff c.0.b d.0.b) (byte_minus c.0.r d.0.r) (byte_minus c.0.g d.0.g)
    (byte_minus c.0.b d.0.b)
unfolding byte_minus
apart c d C D = diffs c.0.r c.0.g c.0.b d.0.r d.0.g d.0.b C.r C.g C.b D.r D.g D.b

minus_within : (a b : ℕ) → a < 256 → b < 256 → Within 510 (byte_minus a b)
unfolding byte_minus
minus_within a b A B = diff_within a b A B

-- ---- the sums of products are exact
module _ (c1 c2 color : NormalizedColor) (A : Bytes c1) (B : Bytes c2) (C : Bytes color) where
  along_whole : Whole (numerator c1 c2 color) (along c1 c2 color)
  unfolding numerator along
  along_whole = dot_whole (apart color c1 C A) (apart c2 c1 B A)

  pub numerator_bound : nat_abs (numerator c1 c2 color) ≤ 195075
  unfolding numerator
  numerator_bound = dot_bound (apart color c1 C A) (apart c2 c1 B A)

module _ (c1 c2 : NormalizedColor) (A : Bytes c1) (B : Bytes c2) where
  pub denominator_bound : denominator c1 c2 ≤ 195075
  unfolding denominator
  denominator_bound = numerator_bound c1 c2 c2 A B B

  small : denominator c1 c2 < 2 ^ 24
  small = lt_of_le_of_lt denominator_bound (lit< tt)

  length_is : along c1 c2 c2 ≡ wholef (pos (denominator c1 c2))
  unfolding along
  length_is =
      whole_plain 780300 (numerator c1 c2 c2) (along c1 c2 c2) (along_whole c1 c2 c2 A B B)
      (square-dot 510 _ _ _ (lit≤ tt) (minus_within c2.0.r c1.0.r B.r A.r) (minus_within c2.0.g c1.0.g B.g A.g)
      (minus_within c2.0.b c1.0.b B.b A.b))
      ∙ ap (λ (z : ℤ). wholef z) (denominator_is c1 c2)

  -- the code's test of the length
  length_test : eq (along c1 c2 c2) zero_f ≡ eqb (denominator c1 c2) 0
  length_test =
      ap (λ (x : Float). eq x zero_f) length_is
      ∙ eq_zero (wholef (pos (denominator c1 c2))) (denominator c1 c2) (over_value 0 (pos (denominator c1 c2)) (lit≤ tt) small)

-- ---- the share
module _ (c1 c2 color : NormalizedColor) (A : Bytes c1) (B : Bytes c2) (C : Bytes color) where
  share_zero : denominator c1 c2 ≡ 0 → share_of c1 c2 color ≡ zero_f
  unfolding share_of
  share_zero h = rw (length_test c1 c2 A B, h)

  -- "`lerp` is 0 where both ends have equal rgb"
  pub share_equal : EqualRgb c1 c2 → share_of c1 c2 color ≡ zero_f
  share_equal h = share_zero (zero_of_equal c1 c2 h)

  share_quotient : 0 < denominator c1 c2 → share_of c1 c2 color ≡ div binary32 (along c1 c2 color) (wholef (pos (denominator c1 c2)))
  unfolding share_of
  share_quotient h = rw (length_test c1 c2 A B, ne_eqb (denominator c1 c2) 0 (not_zero (denominator c1 c2) h), length_is c1 c2 A B)
    where
      not_zero : (n : ℕ) → 0 < n → n ≡ 0 → ⊥
      not_zero n h e = omega arith

  -- numerator / denominator, rounded once; where the numerator is 0 it can be -0
  pub share_is : 0 < denominator c1 c2 → (share_of c1 c2 color ≡ over (denominator c1 c2) (numerator c1 c2 color))
      ⊎ ((numerator c1 c2 color ≡ pos 0) × (share_of c1 c2 color ≡ minus_zero))
  share_is h =
      elim (quotient (numerator c1 c2 color) (denominator c1 c2) (along c1 c2 color) (along_whole c1 c2 color A B C)
      (lt_of_le_of_lt (numerator_bound c1 c2 color A B C) (lit< tt)) h (small c1 c2 A B)) [
        | inl e ↦ inl (share_quotient h ∙ e)
        | inr e ↦ inr (e.0, share_quotient h ∙ e.1)
      ]

  pub share_within : Within 195075 (share_of c1 c2 color)
  share_within = elim (eq-zero-or-pos (denominator c1 c2)) [
    | inl h ↦ subst (λ (x : Float). Within 195075 x) (sym (share_zero h)) (lit≤ tt)
    | inr h ↦ subst (λ (x : Float). Within 195075 x) (sym (share_quotient h))
        (quotient_within 195075 (numerator c1 c2 color) (denominator c1 c2) (along c1 c2 color) (along_whole c1 c2 color A B C)
        (numerator_bound c1 c2 color A B C) (lit< tt) h (small c1 c2 A B))
  ]

  pub share_number : T (not (is_nan (share_of c1 c2 color)))
  share_number = within_not_nan 195075 (share_of c1 c2 color) share_within

  -- from 0 to 1 exactly where 0 ≤ numerator ≤ denominator
  pub share_between : between (share_of c1 c2 color) ≡ inside (numerator c1 c2 color) (denominator c1 c2)
  share_between = elim (eq-zero-or-pos (denominator c1 c2)) [
    | inl h ↦ rw (share_zero h, no_numerator c1 c2 color h, h) zero_between
    | inr h ↦ let w = along_whole c1 c2 color A B C in
        rw (
          share_quotient h,
          whole_div (numerator c1 c2 color) (denominator c1 c2) (along c1 c2 color) w
              (lt_of_le_of_lt (numerator_bound c1 c2 color A B C) (lit< tt)) h (small c1 c2 A B),
          ← w.value,
        )
        (between-round (denominator c1 c2) h (le_trans (denominator_bound c1 c2 A B) (lit≤ tt)) w.sign w.size)
  ]

  -- and clamped it always is
  pub clamped_between : between (lerp_of c1 c2 color true) ≡ true
  unfolding lerp_of
  clamped_between = clamp_between (share_of c1 c2 color) share_number
