-- What `quantize_pixels` answers, and what its three lent buffers hold afterwards. Definitions only.
-- Written from document 01, "Choosing colours" ("A palette index is the first entry equal to the chosen reduced colour. Transparent pixels get
-- index 0 and `TRANSPARENT`", "max is the palette's length in `quantize_pixels`", "`quantize_pixels` uses origin 0") and "Bounds and replies"; and
-- from document 02, Ask 9: "15 for kinds 5 and 6 in every call that takes a kind, directly after 1"; Ask 11: "signed 16-bit counts of sixteenths, three
-- a pixel", "3 measures the new length"; Ask 5: "Each call names its reduction", "1 for any other pairing", "3 covers the new buffer".
use Rattle.std.specs.Prelude.{ℕ, ◌*◌, ◌/◌, ◌%◌, ◌<◌, ◌≡◌, Bool, cond, not, ◌||◌, List, [], ◌∷◌, eqb, ltb, ℤ, length, Float, Result, Option, None}
use Rattle.lists.specs.Gather.{gather}
use Rattle.lists.specs.First.{first_that}
use Rattle.replies.specs.Replies.{Reply, ◌if◌, after}
use Rattle.replies.specs.Refusals.{number_of, Answered}
use Rattle.replies.specs.declared.Refusal.{Refusal}
use Rattle.color.specs.declared.ReducedColor.{ReducedColor}
use Rattle.color.specs.Color.{reduced_at, same_reduced}
use Rattle.reducing.specs.declared.Reducing.{Reducing}
use Rattle.reducing.specs.Reduce.{is_pairing}
use Rattle.picture.specs.Bounds.{size_wrong, lent_wrong}
use Rattle.picture.specs.Pixels.{is_seen}
use Rattle.conversion.specs.Lists.{list_oklab}
use Rattle.patterns.specs.Kinds.{is_kind, is_retired, cells_needed}
use Rattle.mixing.specs.Widths.{width_of}
use Rattle.drawing.specs.declared.Ditherer.{Ditherer}
use Rattle.drawing.specs.Drawing.{Drawing, drawn}
use Rattle.drawing.specs.Lent.{Lent, lent, drawing_of, cells_after}
use Rattle.drawing.specs.Finished.{finished_picture}
use Rattle.quantize.specs.declared.Lengths.{Lengths}

-- what the caller asks for, and lends to be read
pub record Commission : Type 0 where
  pub shift : ℕ
  pub reducing : Reducing
  pub kind : ℕ
  pub width : ℕ
  pub height : ℕ
  pub reduction : List ℕ
  pub scale : List ℕ
  pub palette : List ℕ
  pub pixels : List ℕ
  pub opaque : List ℕ

-- the same from its parts
abbrev pub commission : (shift : ℕ) (reducing : Reducing) (kind width height : ℕ) (reduction scale palette pixels opaque : List ℕ) → Commission
commission shift reducing kind width height reduction scale palette pixels opaque = record {
  shift = shift;
  reducing = reducing;
  kind = kind;
  width = width;
  height = height;
  reduction = reduction;
  scale = scale;
  palette = palette;
  pixels = pixels;
  opaque = opaque;
}

-- the same of what is lent to the drawing, whose candidates are the palette
abbrev pub commission_by : (shift kind width height : ℕ) → Lent → Commission
commission_by shift kind width height l = commission shift l.reducing kind width height l.reduction l.scale l.colors l.pixels l.opaque

-- how many entries the palette has, four bytes each, and how many pixels the picture
abbrev pub entries : Commission → ℕ
entries q = length q.palette / 4

abbrev pub size : Commission → ℕ
size q = q.width * q.height

-- ---- an accepted picture

-- the Oklab colours of the palette's entries
abbrev pub palette_oklab : Commission → List Float
palette_oklab q = list_oklab q.scale (reduced_at q.palette) (entries q)

-- how the picture is dithered: from origin 0, with a bracket width
abbrev pub ditherer_of : Commission → ℕ → Ditherer
ditherer_of q width = record { kind = q.kind; origin_x = 0; origin_y = 0; width = q.width; height = q.height; bracket_width = width }

-- what is lent to the drawing, the palette with its Oklab colours as the candidates
abbrev pub lent_of : Commission → List Float → Lent
lent_of q oklab = lent q.reducing q.reduction q.scale q.pixels q.opaque q.palette oklab (entries q)

-- the picture that is drawn: no colour zero, and "max is the palette's length"
abbrev pub quantizing : Commission → Drawing
quantizing q = drawing_of (ditherer_of q (width_of q.shift (entries q))) None (lent_of q (palette_oklab q))

-- the first of n palette entries equal to a colour; n where none is
unfoldable pub index_of : List ℕ → ℕ → ReducedColor → ℕ
index_of palette n c = first_that (λ k. same_reduced (reduced_at palette k) c) n

-- "the first entry equal to the chosen reduced colour": what `index_of` is where there is one, and all that it is (proofs/IndexLaws)
pub record IndexOf (palette : List ℕ) (n : ℕ) (c : ReducedColor) (k : ℕ) : Type 0 where
  pub inside : k < n
  pub equal : reduced_at palette k ≡ c
  pub first : (j : ℕ) → j < k → reduced_at palette j ≡ c → ⊥

-- the index of a pixel that chose c: that entry's where the pixel is not transparent, else 0
unfoldable pub index_for : List ℕ → ℕ → Bool → ReducedColor → ℕ
index_for palette n seen c = cond seen (index_of palette n c) 0

-- a byte a pixel, where the pixels reduce to `reduced` and chose `chosen`
unfoldable pub index_bytes : List ℕ → ℕ → (reduced chosen : ℕ → ReducedColor) → ℕ → List ℕ
index_bytes palette n reduced chosen size = gather size (λ i. index_for palette n (is_seen reduced i) (chosen i) ∷ [])

-- pixel i's index, all indices, and the pixels at full precision
abbrev pub index_at : Commission → ℕ → ℕ
index_at q i = index_for q.palette (entries q) (is_seen (quantizing q).reduced i) (drawn (quantizing q) i)

abbrev pub indices_of : Commission → List ℕ
indices_of q = index_bytes q.palette (entries q) (quantizing q).reduced (drawn (quantizing q)) (size q)

abbrev pub pixels_of : Commission → List ℕ
pixels_of q = finished_picture (quantizing q)

-- ---- refusals

-- how long each lent buffer is, whatever the cells are
abbrev pub lengths_of : {C : Type 0} → Commission → (indices out : List ℕ) → List C → Lengths
lengths_of q indices out cells = record {
  reduction = length q.reduction;
  scale = length q.scale;
  palette = length q.palette;
  pixels = length q.pixels;
  opaque = length q.opaque;
  indices = length indices;
  out = length out;
  cells = length cells;
}

-- a lent length is wrong, for a reduction, a kind and a number of pixels
unfoldable pub lengths_wrong : Reducing → ℕ → ℕ → Lengths → Bool
lengths_wrong by kind n s =
    lent_wrong by s.reduction s.scale s.pixels s.opaque n
    || (not (eqb (s.palette % 4) 0) || (not (eqb s.indices n) || (not (eqb s.out (4 * n)) || not (eqb s.cells (cells_needed kind n)))))

-- "Palette 1..256 entries"
unfoldable pub entries_wrong : ℕ → Bool
entries_wrong n = eqb n 0 || ltb 256 n

-- the numbers that this call can answer with, in their order
abbrev pub checks : (shift : ℕ) → Reducing → (kind width height : ℕ) → Lengths → List Reply
checks shift by kind width height s =
    1 if (not (is_kind kind) || not (is_pairing by shift))
    ∷ 15 if is_retired kind
    ∷ 2 if size_wrong width height
    ∷ 3 if lengths_wrong by kind (width * height) s
    ∷ 4 if entries_wrong (s.palette / 4)
    ∷ []

abbrev pub replies : {C : Type 0} → Commission → (indices out : List ℕ) → List C → List Reply
replies q indices out cells = checks q.shift q.reducing q.kind q.width q.height (lengths_of q indices out cells)

-- ---- the promise

-- what `quantize_pixels` answers and leaves: r, and the three buffers after its number, which held `indices₀`, `out₀` and `cells₀`
pub record Quantized (q : Commission) (indices₀ out₀ : List ℕ) (cells₀ : List ℤ) (r : Result Unit Refusal) (indices out : List ℕ) (cells : List ℤ)
    : Type 0 where
  pub answer : Answered (replies q indices₀ out₀ cells₀) tt r
  pub index_buffer : indices ≡ after (number_of r) (indices_of q) indices₀
  pub picture : out ≡ after (number_of r) (pixels_of q) out₀
  pub cell_buffer : cells ≡ after (number_of r) (cells_after (quantizing q) cells₀) cells₀
