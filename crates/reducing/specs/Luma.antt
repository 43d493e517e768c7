-- The luma of a colour: the f32 operations in the Rust's order, each rounded. Definitions only.
-- Written from `luma_f32` and `luma_u8` of src/color.rs, and document 02, Ask 5: "`luma_u8` of that pixel, the f32 steps in the Rust's order".
use Rattle.std.specs.Prelude.{ℕ, cond, pos, Float}
use Rattle.std.specs.Float.{binary32}
use Rattle.std.specs.Float.Ieee.{mul, div, lt, to_unsigned}
use Rattle.floats.specs.Over.{over}
use Rattle.floats.specs.Bytes.{zero_f, byte_f, dot}
use Rattle.color.specs.declared.NormalizedColor.{NormalizedColor}

-- a byte over 255
unfoldable pub unit : ℕ → Float
unit v = div binary32 (byte_f v) (byte_f 255)

-- so many ten thousandths: the f32 nearest to 0.2126, 0.7152 and 0.0722
abbrev pub share : ℕ → Float
share n = over 10000 (pos n)

-- Rec. 709 luma: r * 0.2126 + g * 0.7152 + b * 0.0722
unfoldable pub luma_f32 : NormalizedColor → Float
luma_f32 c = dot (unit c.0.r) (unit c.0.g) (unit c.0.b) (share 2126) (share 7152) (share 722)

-- `clamp(0.0, 255.0)`
unfoldable pub clamp_byte : Float → Float
clamp_byte x = cond (lt x zero_f) zero_f (cond (lt (byte_f 255) x) (byte_f 255) x)

-- `as u8`: cut to its whole part
abbrev pub cut_byte : Float → ℕ
cut_byte x = to_unsigned 8 x

-- the luma times 255, clamped, cut to a byte
unfoldable pub luma_u8 : NormalizedColor → ℕ
luma_u8 c = cut_byte (clamp_byte (mul binary32 (luma_f32 c) (byte_f 255)))
