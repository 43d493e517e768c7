-- The original's f32 steps at one pixel: rounding, clipping and the cast to a byte, the biased byte, the residual, and a target's factor. Definitions only.
-- Written from `clamp_u8`, `diffusion_color_at` and the kernels of src/dither.rs, and from what Rust's documentation says of `f32::round` ("the nearest
-- integer to self; if a value is half-way between two integers, round away from 0.0"), `f32::clamp` and `as u8`.
use Rattle.std.specs.Prelude.{ℕ, ◌+◌, ◌*◌, ◌/◌, false, cond, ℤ, pos, Float}
use Rattle.std.specs.Float.{nan, inf, fin, binary32}
use Rattle.std.specs.Float.Ieee.{up, down, round, add, sub, mul, div, lt, to_unsigned, to_signed}
use Rattle.floats.specs.Bytes.{zero_f, byte_f}
use Rattle.patterns.specs.declared.Target.{Target}

-- `round`: to the nearest whole number, halves away from zero; the sign stays, so that -0.3 gives -0.0
unfoldable pub round_f : Float → Float
round_f nan = nan
round_f (inf s) = inf s
round_f (fin s m e) = round binary32 s ((2 * (m * up e) + down e) / (2 * down e)) 1

-- 255.0
abbrev pub most_f : Float
most_f = fin false 255 (pos 0)

-- `clamp`: the low end where the value is below it, the high end where it is above that, else the value
unfoldable pub clamp_f : Float → Float → Float → Float
clamp_f low high x = cond (lt x low) low (cond (lt high x) high x)

-- `v.round().clamp(0.0, 255.0) as u8`
unfoldable pub clamp_u8 : Float → ℕ
clamp_u8 v = to_unsigned 8 (clamp_f zero_f most_f (round_f v))

-- `clamp_u8(f32::from(source) + cell)`
unfoldable pub biased_f : ℕ → Float → ℕ
biased_f source cell = clamp_u8 (add binary32 (byte_f source) cell)

-- `f32::from(biased) - f32::from(chosen)`
unfoldable pub residual_f : ℕ → ℕ → Float
residual_f biased chosen = sub binary32 (byte_f biased) (byte_f chosen)

-- a target's factor: `7.0 / 16.0` where the weight is 7, and so on (`1.0 / 8.0` is `2.0 / 16.0`: proofs/Arithmetic, `an_eighth`)
unfoldable pub ratio_f : Target → Float
ratio_f t = div binary32 (byte_f t.weight) (byte_f 16)

-- sixteen times a cell, as a whole number
unfoldable pub sixteen_times : Float → ℤ
sixteen_times x = to_signed 31 (mul binary32 x (byte_f 16))
