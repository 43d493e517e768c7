-- The conversion of a colour to Oklab, exact up to the last step. Definitions only.
-- Written from document 01, "Conversion", its second to last points; the coefficients are those of the published Oklab definition, times 10^10.
use Rattle.std.specs.Prelude.{◌≡◌, ℕ, ◌+◌, ◌*◌, ◌^◌, ◌≤◌, ℤ, pos, ◌+ℤ◌, ◌-ℤ◌}
use Rattle.floats.specs.Over.{millionths}
use Rattle.color.specs.declared.NormalizedColor.{NormalizedColor}
use Rattle.color.specs.declared.Oklab.{Oklab}
use Rattle.conversion.specs.Linear.{linear_of}
use Rattle.conversion.specs.Root.{root_of}
use Rattle.conversion.specs.Nearest.{nearest}

-- none of three numbers exceeds n
pub record AtMost (n x y z : ℕ) : Type 0 where
  pub first : x ≤ n
  pub second : y ≤ n
  pub third : z ≤ n

-- r, g, b are the linear values of a colour
pub record IsLinear (c : NormalizedColor) (r g b : ℕ) : Type 0 where
  pub red : r ≡ linear_of c.0.r
  pub green : g ≡ linear_of c.0.g
  pub blue : b ≡ linear_of c.0.b

-- l, m, s from linear r, g, b
abbrev pub l_of : ℕ → ℕ → ℕ → ℕ
l_of r g b = 4122214708 * r + 5363325363 * g + 514459929 * b

abbrev pub m_of : ℕ → ℕ → ℕ → ℕ
m_of r g b = 2119034982 * r + 6806995451 * g + 1073969566 * b

abbrev pub s_of : ℕ → ℕ → ℕ → ℕ
s_of r g b = 883024619 * r + 2817188376 * g + 6299787005 * b

-- L, a, b in millionths from l', m', s'
abbrev pub lightness_of : ℕ → ℕ → ℕ → ℤ
lightness_of l m s = nearest (10 ^ 10) (pos (2104542553 * l) +ℤ pos (7936177850 * m) -ℤ pos (40720468 * s))

abbrev pub a_of : ℕ → ℕ → ℕ → ℤ
a_of l m s = nearest (10 ^ 10) (pos (19779984951 * l) -ℤ pos (24285922050 * m) +ℤ pos (4505937099 * s))

abbrev pub b_of : ℕ → ℕ → ℕ → ℤ
b_of l m s = nearest (10 ^ 10) (pos (259040371 * l) +ℤ pos (7827717662 * m) -ℤ pos (8086757660 * s))

pub record Millionths : Type 0 where
  pub lightness : ℤ
  pub a : ℤ
  pub b : ℤ

-- from l', m', s'
abbrev pub millionths_from : ℕ → ℕ → ℕ → Millionths
millionths_from l m s = record { lightness = lightness_of l m s; a = a_of l m s; b = b_of l m s }

-- from linear r, g, b
abbrev pub millionths_of : ℕ → ℕ → ℕ → Millionths
millionths_of r g b = millionths_from (root_of (l_of r g b)) (root_of (m_of r g b)) (root_of (s_of r g b))

-- from a colour; its alpha plays no part
abbrev pub millionths_at : NormalizedColor → Millionths
millionths_at c = millionths_of (linear_of c.0.r) (linear_of c.0.g) (linear_of c.0.b)

-- "The f32 is that whole number divided by 1000000.0, one rounding."
unfoldable pub oklab_of : Millionths → Oklab
oklab_of n = record { l = millionths n.lightness; a = millionths n.a; b = millionths n.b }

unfoldable pub to_oklab : NormalizedColor → Oklab
to_oklab c = oklab_of (millionths_at c)

-- what `to_oklab` promises of its answer o
abbrev pub ToOklabAnswered : NormalizedColor → Oklab → Type 0
ToOklabAnswered c o = o ≡ to_oklab c
