-- Rounding sixteenths to a byte: how a negative number is rounded and how another one, that clamping clips, and that a biased byte is a byte. Assumes nothing.
use mathlib.Core.Path.{◌≡◌, refl, sym, subst}
use Prim.Native.Nat.{ℕ, ◌+◌, ◌*◌, ◌/◌, ◌≤◌, ◌<◌, zero-le}
use native.Mathlib.Omega.{arith}
use mathlib.Core.Bool.{true, false, true≢false}
use lib.Dec.{T, ltb→lt}
use lib.IntN.{ℤ, pos, negsuc, neg_ℤ, nat_abs, ◌+ℤ◌}
use lib.Signed.{lt_z, non_neg}
use Rattle.std.specs.Int.{int_max, int_min}
use Rattle.std.proofs.lemmas.Int.{ints, clamps}
use Rattle.diffusion.specs.Biased.{halves, clip, biased_of}

pub not_below_zero : (z : ℤ) → lt_z z (pos 0) ≡ false → T (non_neg z)
not_below_zero (pos n) t = tt
not_below_zero (negsuc n) t = absurd (true≢false t)

none_below : (n : ℕ) → lt_z (pos n) (pos 0) ≡ true → ⊥
none_below n t = none n (ltb→lt n 0 (subst T (sym t) tt))
  where
    none : (n : ℕ) → n < 0 → ⊥
    none n h = omega arith

-- ---- rounding
pub halves_below : (z : ℤ) → lt_z z (pos 0) ≡ true → neg_ℤ (pos ((nat_abs z + 8) / 16)) ≡ halves z
unfolding halves
halves_below (pos n) t = absurd (none_below n t)
halves_below (negsuc n) t = refl

pub halves_above : (z : ℤ) → lt_z z (pos 0) ≡ false → pos ((nat_abs z + 8) / 16) ≡ halves z
unfolding halves
halves_above (pos n) t = refl
halves_above (negsuc n) t = absurd (true≢false t)

-- ---- clipping
pub clamped : (z : ℤ) → int_max (pos 0) (int_min z (pos 255)) ≡ pos (clip z)
unfolding clip
clamped (pos n) = omega (arith, ints, clamps)
clamped (negsuc n) = refl

clip_byte : (z : ℤ) → clip z ≤ 255
unfolding clip
clip_byte (pos v) = omega arith
clip_byte (negsuc v) = zero-le

pub biased_byte : (s : ℕ) (z : ℤ) → biased_of s z ≤ 255
unfolding biased_of
biased_byte s z = clip_byte (halves (pos (s * 16) +ℤ z))
