-- The pictures that the code draws: what the lent bytes, floats and settings say, and what the lent buffers hold afterwards. Definitions only.
-- Written from document 01, "Which document decides", "Choosing colours" and "Bounds and replies"; and from document 02, Ask 5: "the colour to be dithered is
-- still the original pixel".
use Rattle.std.specs.Prelude.{ℕ, ◌+◌, ◌*◌, ◌≤◌, ◌<◌, ◌≡◌, Bool, false, cond, ◌||◌, List, ℤ, length, Float, Option, Some, None}
use Rattle.lists.specs.Gather.{gather}
use Rattle.color.specs.declared.ReducedColor.{ReducedColor}
use Rattle.color.specs.Color.{is_transparent, same_rgb, bytes_of}
use Rattle.color.specs.Tables.{normalize_color}
use Rattle.reducing.specs.declared.Reducing.{Reducing}
use Rattle.picture.specs.Bounds.{opaque_needed}
use Rattle.picture.specs.Pixels.{source_at, basis, reduced_by}
use Rattle.patterns.specs.Kinds.{is_diffusion, kernel_of}
use Rattle.shortlist.specs.Candidates.{Candidates, scaled}
use Rattle.diffusion.specs.Scatter.{cell_buffer}
use Rattle.drawing.specs.declared.Ditherer.{Ditherer}
use Rattle.drawing.specs.declared.lent.Lent as declared
use Rattle.drawing.specs.Drawing.{Drawing, picture_of, drawn}

-- the rgb is colour zero's; its alpha plays no part
abbrev pub is_zero : Option ReducedColor → ReducedColor → Bool
is_zero None c = false
is_zero (Some z) c = same_rgb c z

-- a pixel is skipped if its reduced colour is transparent or has colour zero's rgb
unfoldable pub is_skipped : Option ReducedColor → ReducedColor → Bool
is_skipped zero c = is_transparent c.0 || is_zero zero c

-- what is lent to be read: how pixels reduce, the two tables, the pixels and the opaque ones beside them, and the candidates with their Oklab colours
pub record Lent : Type 0 where
  pub reducing : Reducing
  pub reduction : List ℕ
  pub scale : List ℕ
  pub pixels : List ℕ
  pub opaque : List ℕ
  pub colors : List ℕ
  pub oklab : List Float
  pub count : ℕ

abbrev pub lent : Reducing → (reduction scale pixels opaque colors : List ℕ) → List Float → ℕ → Lent
lent reducing reduction scale pixels opaque colors oklab count = record {
  reducing = reducing;
  reduction = reduction;
  scale = scale;
  pixels = pixels;
  opaque = opaque;
  colors = colors;
  oklab = oklab;
  count = count;
}

-- what the code's struct lends
abbrev pub lent_by : declared.Lent → Lent
lent_by l =
    let cs = l.candidates in
    lent l.reducing l.reduction.now cs.scale.now l.pixels.now l.opaque.now cs.colors.now cs.oklabs.oklab.now cs.oklabs.count

-- the pixels' reduced colours, and the candidates
abbrev pub reduced_lent : Lent → ℕ → ReducedColor
reduced_lent l = reduced_by l.reducing l.reduction (basis l.reducing l.pixels l.opaque)

abbrev pub candidates_lent : Lent → Candidates
candidates_lent l = scaled l.colors l.scale l.oklab l.count

-- the picture that is drawn
abbrev pub drawing_of : Ditherer → Option ReducedColor → Lent → Drawing
drawing_of t zero l =
    record {
      width = t.width;
      height = t.height;
      origin_x = t.origin_x;
      origin_y = t.origin_y;
      kind = t.kind;
      bracket_width = t.bracket_width;
      source = source_at l.pixels;
      reduced = reduced_lent l;
      skipped = λ i. is_skipped zero (reduced_lent l i);
      candidates = candidates_lent l;
      normalize = normalize_color l.scale;
    }

-- pixel i's reduced bytes, and those of the whole picture, four a pixel
abbrev pub pixel_bytes : Drawing → ℕ → List ℕ
pixel_bytes d i = bytes_of (drawn d i).0

unfoldable pub reduced_bytes : Drawing → List ℕ
reduced_bytes d = gather (d.width * d.height) (pixel_bytes d)

-- the cells after a picture is drawn: its own for a diffusion kind, and otherwise what was lent
unfoldable pub cells_after : Drawing → List ℤ → List ℤ
cells_after d was = cond (is_diffusion d.kind) (cell_buffer (kernel_of d.kind) (picture_of d (drawn d))) was

-- all that is lent fits the picture; that the tables are whole, and the candidates as many as are said, the types say
pub record Ready (t : Ditherer) (zero : Option ReducedColor) (l : Lent) : Type 0 where
  pub wide : t.width ≤ 4096
  pub high : t.height ≤ 4096
  pub few : t.width * t.height ≤ 1048576
  pub across : t.origin_x + t.width ≤ 4294967295
  pub down : t.origin_y + t.height ≤ 4294967295
  pub pixels : length l.pixels ≡ 4 * (t.width * t.height)
  pub opaque : length l.opaque ≡ opaque_needed l.reducing (t.width * t.height)
  pub some : (i : ℕ) → i < t.width * t.height → is_skipped zero (reduced_lent l i) ≡ false → 0 < l.count
