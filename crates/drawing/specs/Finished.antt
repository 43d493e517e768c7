-- A drawn picture at full precision: what becomes of a pixel that chose. Definitions only.
-- Written from document 01, "Which document decides" ("Normalising sends all four bytes through the scale table"), and "Choosing colours"
-- ("Transparent pixels get index 0 and `TRANSPARENT`").
use Rattle.std.specs.Prelude.{ℕ, ◌*◌, ◌/◌, ◌≡◌, Bool, cond, List, length}
use Rattle.lists.specs.Gather.{gather}
use Rattle.color.specs.declared.NormalizedColor.{NormalizedColor}
use Rattle.color.specs.declared.ReducedColor.{ReducedColor}
use Rattle.color.specs.Color.{bytes_of, transparent_normalized}
use Rattle.picture.specs.Pixels.{is_seen}
use Rattle.drawing.specs.Drawing.{Drawing, drawn}

-- what becomes of a pixel that chose c: c normalised where the pixel is not transparent, else TRANSPARENT
unfoldable pub finished : (ReducedColor → NormalizedColor) → Bool → ReducedColor → NormalizedColor
finished normalize seen c = cond seen (normalize c) transparent_normalized

-- what becomes of pixel i, where the pixels in `seen` are not transparent and all chose `chosen`; and the bytes of n pixels, four each
abbrev pub finished_at : (ReducedColor → NormalizedColor) → (seen : ℕ → Bool) → (chosen : ℕ → ReducedColor) → ℕ → NormalizedColor
finished_at normalize seen chosen i = finished normalize (seen i) (chosen i)

unfoldable pub finished_bytes : (ReducedColor → NormalizedColor) → (seen : ℕ → Bool) → (chosen : ℕ → ReducedColor) → ℕ → List ℕ
finished_bytes normalize seen chosen n = gather n (λ i. bytes_of (finished_at normalize seen chosen i).0)

-- the same of a drawn picture
abbrev pub finished_pixel : Drawing → ℕ → NormalizedColor
finished_pixel d i = finished_at d.normalize (is_seen d.reduced) (drawn d) i

abbrev pub finished_picture : Drawing → List ℕ
finished_picture d = finished_bytes d.normalize (is_seen d.reduced) (drawn d) (d.width * d.height)

-- what the code needs to finish pixels, whose reduced choices are lent: four bytes of each a pixel
pub record Finishable (pixels : List ℕ) (chosen : List ℕ) : Type 0 where
  pub source : length pixels ≡ length chosen
  pub long : length chosen ≡ 4 * (length chosen / 4)
