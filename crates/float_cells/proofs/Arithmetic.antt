-- The original's f32 steps, of cells that are sixteenths: a biased byte is that of the whole sixteenths, a residual is whole, a factor is its weight over
-- sixteen, and sixteen times a cell is its count. Assumes nothing.
use mathlib.Core.Path.{◌≡◌, refl, sym, ap, ◌∙◌, subst}
use Prim.Native.Nat.{ℕ, zero, suc, ◌+◌, ◌*◌, ◌/◌, ◌^◌, ◌≤◌, ◌<◌, zero-le, min}
use native.Mathlib.Nat.{add-mul, zero-mul, mul-div-mul_right, mul-div_cancel, mul-one, lt_of_lt_of_le, lt_of_le_of_lt, lt_of_mul-lt-mul_right, le_of_eq, le_trans}
use native.Mathlib.Omega.{arith}
use mathlib.Core.Bool.{Bool, true, false, cond}
use borrow.Author.Tests.{le-ltb}
use lib.Dec.{T, ltb, ltb→lt, lit<, lit≤}
use lib.IntN.{ℤ, pos, negsuc, neg_ℤ, nat_abs, ◌+ℤ◌}
use lib.Ieee.{Float, nan, inf, fin, binary32, up, down, round, add, mul, div, lt, to_unsigned, to_signed}
use lib.Ieee.Exact.{HasValue}
use lib.Ieee.Fits.{down_pos}
use lib.Ieee.Scale.{round_same}
use Rattle.floats.specs.Over.{over, wholef, sixteenths}
use Rattle.floats.specs.Bytes.{zero_f, byte_f, diff}
use Rattle.floats.proofs.Int.{sum_size}
use Rattle.floats.proofs.At.{div_at}
use Rattle.floats.proofs.Over.{is_neg, over_value, round_value}
use Rattle.floats.proofs.Sixteenths.{whole_sixteenths, sixteenths-add, sixteenths_by_16, whole_cast}
use Rattle.floats.proofs.Bytes.{byte_is, diff_is}
use Rattle.patterns.specs.declared.Target.{Target}
use Rattle.diffusion.specs.Biased.{halves, clip, biased_of}
use Rattle.float_cells.specs.Arithmetic.{round_f, most_f, clamp_f, clamp_u8, biased_f, residual_f, ratio_f, sixteen_times}

-- ---- rounding
-- of n / 16
round-sixteenths : (x : Float) (s : Bool) (n : ℕ) → HasValue x s n 16 → round_f x ≡ round binary32 s ((n + 8) / 16) 1
unfolding round_f
round-sixteenths nan s n h = absurd h
round-sixteenths (inf t) s n h = absurd h
round-sixteenths (fin t m e) s n h = λ q. round binary32 (h.0 q) (whole (m * up e) (down e) (down_pos e) h.1 q) 1
  where
    top : (a d : ℕ) → a * 16 ≡ n * d → (2 * a + d) * 8 ≡ (n + 8) * d
    top a d e = omega (arith, add-mul n 8 d)

    whole : (a d : ℕ) → 0 < d → a * 16 ≡ n * d → (2 * a + d) / (2 * d) ≡ (n + 8) / 16
    whole a d D e =
        sym (mul-div-mul_right {m = 8} (2 * a + d) (2 * d) (lit< tt))
        ∙ (λ q. top a d e q / bottom d q)
        ∙ mul-div-mul_right {m = d} (n + 8) 16 D
      where
        bottom : (d : ℕ) → 2 * d * 8 ≡ 16 * d
        bottom d = omega arith

-- ---- clipping, and the cast to a byte
-- of a whole number
clip_whole : (y : Float) (s : Bool) (q : ℕ) → HasValue y s q 1 → to_unsigned 8 (clamp_f zero_f most_f y) ≡ cond s 0 (min q 255)
unfolding clamp_f lt to_unsigned
clip_whole nan s q h = absurd h
clip_whole (inf t) s q h = absurd h
clip_whole (fin true m e) false q h = cc
clip_whole (fin false m e) true q h = cc
clip_whole (fin true m e) true q h = go (ltb 0 (m * up e * 1 + 0 * 1 * down e))
  where
    go : (b : Bool) → to_unsigned 8 (cond b zero_f (cond false most_f (fin true m e))) ≡ 0
    go true = refl
    go false = refl
clip_whole (fin false m e) false q h = go (ltb (m * up e * 1) (0 * 1 * down e)) none (ltb (255 * 1 * down e) (m * up e * 1)) refl
  where
    none : ltb (m * up e * 1) (0 * 1 * down e) ≡ false
    none = le-ltb (m * up e * 1) (0 * 1 * down e) (le_trans (le_of_eq (zero-mul (down e))) zero-le)

    above : (a d q : ℕ) → 255 * 1 * d < a * 1 → a * 1 ≡ q * d → 255 < q
    above a d q l e = lt_of_mul-lt-mul_right d (subst (λ (x : ℕ). 255 * d < x) e l)

    go : (a : Bool) → a ≡ false → (b : Bool) → ltb (255 * 1 * down e) (m * up e * 1) ≡ b
        → to_unsigned 8 (cond a zero_f (cond b most_f (fin false m e))) ≡ min q 255
    go true A b B = cc
    go false A true B =
        let more : 255 < q = above (m * up e) (down e) q (ltb→lt (255 * 1 * down e) (m * up e * 1) (subst T (sym B) tt)) h.1 in
        omega arith
    go false A false B =
        ap (λ (x : ℕ). min x 255)
        (ap (λ (x : ℕ). x / down e) (sym (mul-one (m * up e)) ∙ h.1) ∙ mul-div_cancel q (down_pos e))

-- ---- the biased byte
clip_negative : (q : ℕ) → 0 ≡ clip (neg_ℤ (pos q))
unfolding clip
clip_negative zero = refl
clip_negative (suc q) = refl

clip-halves : (z : ℤ) → cond (is_neg z) 0 (min ((nat_abs z + 8) / 16) 255) ≡ clip (halves z)
unfolding clip halves
clip-halves (pos n) = refl
clip-halves (negsuc n) = clip_negative ((suc n + 8) / 16)

few : (n : ℕ) → n < 2 ^ 20 → (n + 8) / 16 ≤ 2 ^ 20
few n h = omega arith

clamp_is : (z : ℤ) → nat_abs z < 2 ^ 20 → clamp_u8 (sixteenths z) ≡ clip (halves z)
unfolding clamp_u8
clamp_is z Z =
    let q : ℕ = (nat_abs z + 8) / 16 in
    ap (λ (y : Float). to_unsigned 8 (clamp_f zero_f most_f y))
    (round-sixteenths (sixteenths z) (is_neg z) (nat_abs z) (over_value 4 z (lit≤ tt) (lt_of_lt_of_le Z (lit≤ tt))))
    ∙ clip_whole (round binary32 (is_neg z) q 1) (is_neg z) q (round_value (is_neg z) 0 q (lit≤ tt) (lt_of_le_of_lt (few (nat_abs z) Z) (lit< tt)))
    ∙ clip-halves z

byte_and_cell : (b : ℕ) (z : ℤ) → b < 256 → nat_abs z ≤ 4080 → add binary32 (byte_f b) (sixteenths z) ≡ sixteenths (pos (b * 16) +ℤ z)
byte_and_cell b z B Z =
    ap (λ (x : Float). add binary32 x (sixteenths z)) (byte_is b ∙ whole_sixteenths (pos b))
    ∙ sixteenths-add (pos (b * 16)) z (small (b * 16) (omega arith)) (small (nat_abs z) (omega arith))
  where
    small : (n : ℕ) → n ≤ 4080 → n < 2 ^ 24
    small n h = lt_of_le_of_lt h (lit< tt)

-- clipping and rounding with floats or with whole sixteenths: the same byte
pub biased_is : (b : ℕ) (z : ℤ) → b < 256 → nat_abs z ≤ 4080 → biased_f b (sixteenths z) ≡ biased_of b z
unfolding biased_f biased_of
biased_is b z B Z =
    let few : nat_abs (pos (b * 16) +ℤ z) ≤ 8160 = omega (arith, sum_size (pos (b * 16)) z) in
    ap clamp_u8 (byte_and_cell b z B Z) ∙ clamp_is (pos (b * 16) +ℤ z) (lt_of_le_of_lt few (lit< tt))

-- ---- the residual, the factor, and a cell's count
pub residual_is : (a b : ℕ) → a < 256 → b < 256 → residual_f a b ≡ wholef (diff a b)
unfolding residual_f
residual_is a b A B = diff_is a b A B

byte_value : (n : ℕ) → n < 2 ^ 24 → HasValue (byte_f n) false n 1
byte_value n h = subst (λ (x : Float). HasValue x false n 1) (sym (byte_is n)) (over_value 0 (pos n) (lit≤ tt) h)

-- one rounding of a / b
quotient : (a b : ℕ) → a < 2 ^ 24 → b < 2 ^ 24 → 0 < b → div binary32 (byte_f a) (byte_f b) ≡ round binary32 false a b
quotient a b A B P =
    div_at binary32 (byte_f a) (byte_f b) false false a 1 b 1 (lit< tt) (lit< tt) P (byte_value a A) (byte_value b B)
    ∙ (λ q. round binary32 false (mul-one a q) (mul-one b q))

pub ratio_is : (t : Target) → t.weight ≤ 16 → ratio_f t ≡ sixteenths (pos t.weight)
unfolding ratio_f over
ratio_is t W = quotient t.weight 16 (lt_of_le_of_lt W (lit< tt)) (lit< tt) (lit< tt)

-- Atkinson's factor, as the source writes it
pub an_eighth : div binary32 (byte_f 1) (byte_f 8) ≡ div binary32 (byte_f 2) (byte_f 16)
an_eighth =
    quotient 1 8 (lit< tt) (lit< tt) (lit< tt)
    ∙ round_same binary32 false 1 8 2 16 (lit< tt) (lit< tt) refl
    ∙ sym (quotient 2 16 (lit< tt) (lit< tt) (lit< tt))

pub sixteen_times_lem : (z : ℤ) → nat_abs z ≤ 4080 → sixteen_times (sixteenths z) ≡ z
unfolding sixteen_times
sixteen_times_lem z Z =
    let few : nat_abs z < 2 ^ 24 = lt_of_le_of_lt Z (lit< tt) in
    ap (λ (x : Float). to_signed 31 (mul binary32 (sixteenths z) x)) (byte_is 16) ∙ ap (to_signed 31) (sixteenths_by_16 z few) ∙ (whole_cast z few).1
