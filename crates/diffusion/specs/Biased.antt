-- A biased byte and a biased colour, from whole sixteenths. Definitions only.
-- Written from document 01, "Diffusion runs row by row, left to right": "Biased = source + cell, rounded with halves away from zero, clipped to
-- 0..255."
use Rattle.std.specs.Prelude.{ℕ, suc, ◌+◌, ◌*◌, ◌/◌, min, List, ℤ, pos, negsuc, neg_ℤ, ◌+ℤ◌, get_or}
use Rattle.color.specs.declared.NormalizedColor.{NormalizedColor}
use Rattle.color.specs.Color.{rgba}

-- v sixteenths to the nearest whole number, halves away from zero
unfoldable pub halves : ℤ → ℤ
halves (pos v) = pos ((v + 8) / 16)
halves (negsuc v) = neg_ℤ (pos ((suc v + 8) / 16))

-- clipped to 0..255
unfoldable pub clip : ℤ → ℕ
clip (pos v) = min v 255
clip (negsuc v) = 0

-- the biased byte of a source s and a cell of z sixteenths
unfoldable pub biased_of : ℕ → ℤ → ℕ
biased_of s z = clip (halves (pos (s * 16) +ℤ z))

-- the biased colour of the pixel i, whose three cells stand at 3 * i, 3 * i + 1 and 3 * i + 2; alpha is kept
abbrev pub biased_color : NormalizedColor → List ℤ → ℕ → NormalizedColor
biased_color c cells i = record {
  0 =
      rgba (biased_of c.0.r (get_or cells (3 * i) (pos 0)))
      (biased_of c.0.g (get_or cells (3 * i + 1) (pos 0)))
      (biased_of c.0.b (get_or cells (3 * i + 2) (pos 0)))
      c.0.a;
}
