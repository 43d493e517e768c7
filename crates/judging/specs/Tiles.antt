-- The tiles of a picture, their colours, and the first tile that is over its limit. Definitions only.
-- Written from document 01, "Choosing colours": "Tiles are taken row by row; .. Edge tiles are cut short. A tile is over its limit if its
-- non-transparent pixels have more different chosen reduced colours than that", and reply 8: "first tile's number, row by row from 0".
-- Pixels are numbered row by row: pixel i of a picture of width w stands in column i % w and row i / w.
use Rattle.std.specs.Prelude.{Bool, cond, not, ◌&&◌, List, ℕ, ◌+◌, ◌-◌, ◌*◌, ◌/◌, ◌%◌, ◌<◌, T, ltb, eqb, length, Option, Some, None}
use Rattle.lists.specs.First.{first_that}
use Rattle.color.specs.declared.ReducedColor.{ReducedColor}
use Rattle.color.specs.Color.{same_reduced}
use Rattle.lists.specs.Different.{differing}

-- how many tiles of a side cover a size; the last may be cut short
unfoldable pub tiles_over : ℕ → ℕ → ℕ
tiles_over size side = (size + side - 1) / side

-- how many tiles a picture of width w and height h has; a tile is tw wide and th high
abbrev pub tile_count : ℕ → ℕ → ℕ → ℕ → ℕ
tile_count w h tw th = tiles_over w tw * tiles_over h th

-- the number of the tile in which pixel i lies, row by row from 0
unfoldable pub tile_of : ℕ → ℕ → ℕ → ℕ → ℕ
tile_of w tw th i = tiles_over w tw * (i / w / th) + i % w / tw

-- pixel i is one of tile t's, and not transparent
unfoldable pub counts_in : (ℕ → Bool) → ℕ → ℕ → ℕ → ℕ → ℕ → Bool
counts_in shown w tw th t i = eqb (tile_of w tw th i) t && shown i

-- the answer from the first tile that is over its limit, or the number of tiles where none is: that tile, or none
unfoldable pub verdict_of : ℕ → ℕ → Option ℕ
verdict_of first tiles = cond (ltb first tiles) (Some first) None

-- of a picture: which pixels are not transparent (of `reduced`, its reduced colours: `is_seen reduced`), their chosen reduced colours, its width and
-- height, and a tile's
module _ (shown : ℕ → Bool) (color : ℕ → ReducedColor) (w h tw th : ℕ) where
  -- the different chosen reduced colours of tile t's non-transparent pixels
  unfoldable pub colors_in : ℕ → List ReducedColor
  colors_in t = differing same_reduced (counts_in shown w tw th t) color (w * h)

  -- tile t has more of them than the limit
  unfoldable pub is_over : ℕ → ℕ → Bool
  is_over limit t = ltb limit (length (colors_in t))

  -- the first tile that is over its limit; the number of tiles where none is
  abbrev pub first_over : ℕ → ℕ
  first_over limit = first_that (is_over limit) (tile_count w h tw th)

  -- what `judge` answers
  unfoldable pub judged_of : ℕ → Option ℕ
  judged_of limit = verdict_of (first_over limit) (tile_count w h tw th)

  -- no tile is over; or that one is and no earlier one: what `judged_of` is, and all that it is (proofs/JudgedLaws)
  abbrev pub JudgedAs : ℕ → Option ℕ → Type 0
  JudgedAs limit None = (t : ℕ) → t < tile_count w h tw th → T (not (is_over limit t))
  JudgedAs limit (Some t) = (t < tile_count w h tw th) × T (is_over limit t) × ((k : ℕ) → k < t → T (not (is_over limit k)))
