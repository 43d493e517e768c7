-- Greys, and colours without tint. Definitions only.
-- Written from document 02, Ask 2, "White has a tint": white was the one grey with a tint, and no grey has one now (proofs/TintLaws, `grey_untinted`).
use Rattle.std.specs.Prelude.{◌≡◌, ◌<◌}
use Rattle.floats.specs.Bytes.{zero_f}
use Rattle.color.specs.declared.NormalizedColor.{NormalizedColor}
use Rattle.color.specs.declared.Oklab.{Oklab}

-- a grey: red, green and blue are the same byte
pub record Grey (c : NormalizedColor) : Type 0 where
  pub byte : c.0.r < 256
  pub green : c.0.g ≡ c.0.r
  pub blue : c.0.b ≡ c.0.r

-- without tint: a and b are 0
pub record Untinted (o : Oklab) : Type 0 where
  pub a : o.a ≡ zero_f
  pub b : o.b ≡ zero_f
