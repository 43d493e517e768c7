-- The share of a colour between two others, and the error of their mix, in the Rust's order of operations, each rounded to an f32. Definitions only.
-- Written from `lerp` and `mix_residual` of src/dither.rs, and from document 01, "Choosing colours": "`lerp` is 0 where both ends have equal
-- rgb. A minus zero counts as within 0 to 1 and stays minus zero when clamped."
use Rattle.std.specs.Prelude.{ℕ, ◌<◌, ◌≡◌, Bool, true, false, cond, ◌&&◌, ℤ, pos, negsuc, nat_abs, leb, Float}
use Rattle.std.specs.Float.{fin, binary32}
use Rattle.std.specs.Float.Ieee.{add, sub, mul, div, eq, lt, le}
use Rattle.color.specs.declared.NormalizedColor.{NormalizedColor}
use Rattle.floats.specs.Bytes.{zero_f, one_f, byte_f, diff, dot, dotℤ}

-- a byte less another
unfoldable pub byte_minus : ℕ → ℕ → Float
byte_minus a b = sub binary32 (byte_f a) (byte_f b)

-- (color - c1) · (c2 - c1), over red, green and blue
unfoldable pub along : NormalizedColor → NormalizedColor → NormalizedColor → Float
along c1 c2 color =
    dot (byte_minus color.0.r c1.0.r) (byte_minus color.0.g c1.0.g) (byte_minus color.0.b c1.0.b)
    (byte_minus c2.0.r c1.0.r) (byte_minus c2.0.g c1.0.g) (byte_minus c2.0.b c1.0.b)

-- the share of c2 in the mix of c1 and c2 that comes nearest to the colour, not clamped; 0 where the ends are equal
unfoldable pub share_of : NormalizedColor → NormalizedColor → NormalizedColor → Float
share_of c1 c2 color = let len2 = along c1 c2 c2 in cond (eq len2 zero_f) zero_f (div binary32 (along c1 c2 color) len2)

-- -0.0
abbrev pub minus_zero : Float
minus_zero = fin true 0 (pos 0)

-- brought to 0..1; -0 stays, being neither below 0 nor above 1
unfoldable pub clamp_of : Float → Float
clamp_of t = cond (lt t zero_f) zero_f (cond (lt one_f t) one_f t)

-- what `lerp` answers
unfoldable pub lerp_of : NormalizedColor → NormalizedColor → NormalizedColor → Bool → Float
lerp_of c1 c2 color clamp = cond clamp (clamp_of (share_of c1 c2 color)) (share_of c1 c2 color)

-- what `lerp` promises of its answer r
abbrev pub LerpAnswered : (c1 c2 color : NormalizedColor) → Bool → Float → Type 0
LerpAnswered c1 c2 color clamp r = r ≡ lerp_of c1 c2 color clamp

-- from 0 to 1; -0 is, and a NaN is not
unfoldable pub between : Float → Bool
between t = le zero_f t && le t one_f

-- c1 and c2 mixed, with the share t of c2, in one channel
unfoldable pub mix_of : ℕ → ℕ → Float → Float
mix_of c1 c2 t = add binary32 (byte_f c1) (mul binary32 t (byte_minus c2 c1))

-- the squared error of the mix against the colour
unfoldable pub mix_residual : NormalizedColor → NormalizedColor → Float → NormalizedColor → Float
mix_residual a b t color =
    let dr = sub binary32 (byte_f color.0.r) (mix_of a.0.r b.0.r t) in
    let dg = sub binary32 (byte_f color.0.g) (mix_of a.0.g b.0.g t) in
    let db = sub binary32 (byte_f color.0.b) (mix_of a.0.b b.0.b t) in
    dot dr dg db dr dg db

-- ---- the same share exactly, as a fraction of whole numbers (proofs/Shares)

-- red, green and blue are bytes
pub record Bytes (c : NormalizedColor) : Type 0 where
  pub r : c.0.r < 256
  pub g : c.0.g < 256
  pub b : c.0.b < 256

-- the same red, green and blue, whatever the alphas are
pub record EqualRgb (c1 c2 : NormalizedColor) : Type 0 where
  pub r : c1.0.r ≡ c2.0.r
  pub g : c1.0.g ≡ c2.0.g
  pub b : c1.0.b ≡ c2.0.b

-- (color - c1) · (c2 - c1)
unfoldable pub numerator : NormalizedColor → NormalizedColor → NormalizedColor → ℤ
numerator c1 c2 color =
    dotℤ (diff color.0.r c1.0.r) (diff color.0.g c1.0.g) (diff color.0.b c1.0.b)
    (diff c2.0.r c1.0.r) (diff c2.0.g c1.0.g) (diff c2.0.b c1.0.b)

-- (c2 - c1) · (c2 - c1)
unfoldable pub denominator : NormalizedColor → NormalizedColor → ℕ
denominator c1 c2 = nat_abs (numerator c1 c2 c2)

-- from 0 to n
abbrev pub inside : ℤ → ℕ → Bool
inside (pos m) n = leb m n
inside (negsuc m) n = false
