-- Bytes as f32 values, and the sum of three products in the order of the code's operations. Definitions only.
-- Written from `lerp` and `mix_residual` of src/dither.rs: `f32::from` of a byte, and the sums of three products there.
use Rattle.std.specs.Prelude.{ℕ, false, ℤ, pos, ◌+ℤ◌, ◌-ℤ◌, ◌*ℤ◌, Float}
use Rattle.std.specs.Float.{fin, binary32}
use Rattle.std.specs.Float.Ieee.{add, mul, of_int}

-- 0.0 and 1.0
abbrev pub zero_f : Float
zero_f = fin false 0 (pos 0)

abbrev pub one_f : Float
one_f = fin false 1 (pos 0)

-- a byte as an f32
unfoldable pub byte_f : ℕ → Float
byte_f n = of_int binary32 (pos n)

-- the difference of two bytes
abbrev pub diff : ℕ → ℕ → ℤ
diff a b = pos a -ℤ pos b

-- x * x' + y * y' + z * z', each operation rounded
unfoldable pub dot : Float → Float → Float → Float → Float → Float → Float
dot x y z x' y' z' = add binary32 (add binary32 (mul binary32 x x') (mul binary32 y y')) (mul binary32 z z')

-- the same of whole numbers, exactly
abbrev pub dotℤ : ℤ → ℤ → ℤ → ℤ → ℤ → ℤ → ℤ
dotℤ a b c a' b' c' = a *ℤ a' +ℤ b *ℤ b' +ℤ c *ℤ c'
