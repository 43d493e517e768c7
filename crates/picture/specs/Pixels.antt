-- The colours of pixel i of a picture, whose bytes are lent four a pixel. Definitions only.
-- Written from document 01, "Which document decides", and section "Choosing colours"; and from document 02, Ask 5: "the caller lends a second pixel buffer
-- with its results", "every pixel counts as opaque, and the colour to be dithered is still the original pixel".
use Rattle.std.specs.Prelude.{ℕ, ◌<◌, ◌≡◌, Bool, true, not, List, ltb}
use Rattle.color.specs.declared.NormalizedColor.{NormalizedColor}
use Rattle.color.specs.declared.ReducedColor.{ReducedColor}
use Rattle.color.specs.Color.{normalized_at, is_transparent}
use Rattle.reducing.specs.declared.Reducing.{Reducing}
use Rattle.reducing.specs.declared.Reducing.TheVariants.{ByAlpha, Grey, OpaqueColor}
use Rattle.reducing.specs.Reduce.{reduce_color}
use Rattle.picture.specs.declared.Pixels.{Pixels}

-- as it was lent
abbrev pub source_at : List ℕ → ℕ → NormalizedColor
source_at pixels i = normalized_at pixels i

-- ---- how a pixel reduces. What is above `picture` speaks of `reduced : ℕ → ReducedColor`, a picture's reduced colours by the pixel, and of
-- "transparent" by these alone

-- the pixels that reduce: by alpha the picture's own; else the opaque ones that are lent beside them
abbrev pub basis : Reducing → (pixels opaque : List ℕ) → List ℕ
basis ByAlpha pixels opaque = pixels
basis Grey pixels opaque = opaque
basis OpaqueColor pixels opaque = opaque

-- pixel i of these, reduced through the table
unfoldable pub reduced_by : Reducing → (reduction pixels : List ℕ) → ℕ → ReducedColor
reduced_by by reduction pixels i = reduce_color by reduction (source_at pixels i)

-- the reduced colours of pixels that carry their own way and table
abbrev pub reduced_of : Pixels → ℕ → ReducedColor
reduced_of pixels = reduced_by pixels.reducing pixels.reduction.now pixels.bytes.now

-- pixel i is not transparent
unfoldable pub is_seen : (ℕ → ReducedColor) → ℕ → Bool
is_seen reduced i = not (is_transparent (reduced i).0)

-- the same by a pixel's own alpha and the least that is seen, without the table (proofs/PixelLaws)
abbrev pub seen_from : (least : ℕ) (pixels : List ℕ) → ℕ → Bool
seen_from least pixels i = not (ltb (source_at pixels i).0.a least)

-- all that the listing of a picture's colours asks of `reduced`: what is seen has alpha 255, and its red, green and blue are bytes. `reduced_by` is so where
-- the reduction table holds bytes (proofs/PixelLaws)
pub record Solid (reduced : ℕ → ReducedColor) : Type 0 where
  pub red : (i : ℕ) → is_seen reduced i ≡ true → (reduced i).0.r < 256
  pub green : (i : ℕ) → is_seen reduced i ≡ true → (reduced i).0.g < 256
  pub blue : (i : ℕ) → is_seen reduced i ≡ true → (reduced i).0.b < 256
  pub alpha : (i : ℕ) → is_seen reduced i ≡ true → (reduced i).0.a ≡ 255
