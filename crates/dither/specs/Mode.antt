-- What `dither_to_mode` answers, and what its four lent buffers hold afterwards. Definitions only.
-- Written from document 01, "Choosing colours" ("`dither_to_mode` uses source origin plus position", "max is .. the tile limit in
-- `dither_to_mode`", "In `dither_to_mode` a non-transparent pixel whose reduced rgb equals colour zero's keeps its reduced colour") and "Bounds and
-- replies"; and from document 02, Ask 9: "15 for kinds 5 and 6 in every call that takes a kind, directly after 1"; Ask 11: "signed 16-bit counts of
-- sixteenths, three a pixel", "3 measures the new length"; Ask 5: "Each call names its reduction", "1 for any other pairing", "3 covers the new buffer". The candidates, the drawn picture and the judged tiles are defined in `candidates`,
-- `drawing` and `judging`.
use Rattle.std.specs.Prelude.{ℕ, ◌*◌, ◌≡◌, Bool, cond, not, ◌||◌, List, [], ◌∷◌, ◌++◌, eqb, ltb, ℤ, pos, length, replicate, Float, Result, Ok, Err}
use Rattle.lists.specs.Gather.{gather}
use Rattle.replies.specs.Replies.{Reply, ◌if◌, after}
use Rattle.replies.specs.Answers.{Answers}
use Rattle.replies.specs.Refusals.{number, refusal}
use Rattle.color.specs.declared.ReducedColor.{ReducedColor}
use Rattle.color.specs.Color.{bytes_of}
use Rattle.reducing.specs.declared.Reducing.{Reducing}
use Rattle.reducing.specs.Reduce.{is_pairing}
use Rattle.picture.specs.Bounds.{size_wrong, origin_wrong, lent_wrong, side_wrong}
use Rattle.picture.specs.Pixels.{basis, reduced_by, is_seen}
use Rattle.conversion.specs.Lists.{list_oklab}
use Rattle.patterns.specs.Kinds.{is_kind, is_retired, cells_needed}
use Rattle.mixing.specs.Widths.{width_of}
use Rattle.drawing.specs.declared.Ditherer.{Ditherer}
use Rattle.drawing.specs.Drawing.{Drawing, drawn}
use Rattle.drawing.specs.Lent.{Lent, lent, drawing_of, cells_after}
use Rattle.drawing.specs.Finished.{finished_picture}
use Rattle.candidates.specs.Candidates.{candidates_of}
use Rattle.candidates.specs.Rooms.{candidate_at, places_with, oklab_with, too_many}
use Rattle.candidates.specs.Calls.{rooms_wrong}
use Rattle.judging.specs.Tiles.{tile_count, first_over}
use Rattle.dither.specs.declared.Settings.{Settings}
use Rattle.dither.specs.declared.Lengths.{Lengths}
use Rattle.dither.specs.declared.DitherError.{DitherError}
use Rattle.dither.specs.declared.DitherError.TheVariants.{TileOver, Refused}

-- what the caller asks for, and lends to be read
pub record Commission : Type 0 where
  pub settings : Settings
  pub reduction : List ℕ
  pub scale : List ℕ
  pub pixels : List ℕ
  pub opaque : List ℕ

abbrev pub commission : Settings → (reduction scale pixels opaque : List ℕ) → Commission
commission settings reduction scale pixels opaque =
    record { settings = settings; reduction = reduction; scale = scale; pixels = pixels; opaque = opaque }

-- the same of what is lent to the drawing
abbrev pub commission_by : Settings → Lent → Commission
commission_by settings l = commission settings l.reduction l.scale l.pixels l.opaque

-- what the caller lends to be written: places for the candidates, the floats beside them, the pixels and the error cells
pub record Buffers : Type 0 where
  pub places : List ℕ
  pub oklab : List Float
  pub out : List ℕ
  pub cells : List ℤ

abbrev pub buffers : List ℕ → List Float → List ℕ → List ℤ → Buffers
buffers places oklab out cells = record { places = places; oklab = oklab; out = out; cells = cells }

-- how many pixels the picture has
abbrev pub size : Commission → ℕ
size q = q.settings.width * q.settings.height

-- ---- the picture

-- the pixels that reduce, and their reduced colours
abbrev pub basis_of : Commission → List ℕ
basis_of q = basis q.settings.reducing q.pixels q.opaque

abbrev pub reduced_of : Commission → ℕ → ReducedColor
reduced_of q = reduced_by q.settings.reducing q.reduction (basis_of q)

-- its candidates
abbrev pub candidate_list : Commission → List ReducedColor
candidate_list q = candidates_of (reduced_of q) (size q)

-- their bytes, four each, and their Oklab, three floats each
unfoldable pub candidate_bytes : List ReducedColor → List ℕ
candidate_bytes cs = gather (length cs) (λ i. bytes_of (candidate_at cs i).0)

abbrev pub candidate_oklab : List ℕ → List ReducedColor → List Float
candidate_oklab scale cs = list_oklab scale (candidate_at cs) (length cs)

-- how it is dithered: from its origin in the source picture, with a bracket width
abbrev pub ditherer_of : Settings → ℕ → Ditherer
ditherer_of s bracket_width =
    record { kind = s.kind; origin_x = s.origin_x; origin_y = s.origin_y; width = s.width; height = s.height; bracket_width = bracket_width }

-- what is lent to the drawing, with so many candidates
abbrev pub lent_of : Commission → List ℕ → List Float → ℕ → Lent
lent_of q colors oklab count = lent q.settings.reducing q.reduction q.scale q.pixels q.opaque colors oklab count

-- the same with the picture's candidates
abbrev pub lent_to : Commission → Lent
lent_to q = lent_of q (candidate_bytes (candidate_list q)) (candidate_oklab q.scale (candidate_list q)) (length (candidate_list q))

-- the picture that is drawn: with the settings' colour zero, and "max is the tile limit"
abbrev pub dithering : Commission → Drawing
dithering q =
    drawing_of (ditherer_of q.settings (width_of q.settings.shift q.settings.limit)) q.settings.zero (lent_to q)

-- pixel i's chosen reduced colour
abbrev pub chosen : Commission → ℕ → ReducedColor
chosen q = drawn (dithering q)

-- how many tiles it has
abbrev pub tiles : Settings → ℕ
tiles s = tile_count s.width s.height s.tile_width s.tile_height

-- the first tile that is over its limit; the number of tiles where none is
unfoldable pub tile_over : Commission → ℕ
tile_over q =
    let s = q.settings in
    first_over (is_seen (reduced_of q)) (chosen q) s.width s.height s.tile_width s.tile_height s.limit

-- some tile is over its limit (proofs/BudgetLaws)
unfoldable pub over_budget : Commission → Bool
over_budget q = ltb (tile_over q) (tiles q.settings)

-- its pixels at full precision
abbrev pub pixels_of : Commission → List ℕ
pixels_of q = finished_picture (dithering q)

-- ---- refusals

-- how long each lent buffer is
abbrev pub lengths_of : Commission → Buffers → Lengths
lengths_of q b = record {
  reduction = length q.reduction;
  scale = length q.scale;
  pixels = length q.pixels;
  opaque = length q.opaque;
  places = length b.places;
  oklab = length b.oklab;
  out = length b.out;
  cells = length b.cells;
}

-- 2: "size above the bound, or origin + side above 4,294,967,295"
unfoldable pub bounds_wrong : Settings → Bool
bounds_wrong s = size_wrong s.width s.height || (origin_wrong s.origin_x s.width || origin_wrong s.origin_y s.height)

-- 3: a lent length is wrong, for a reduction, a kind and a number of pixels
unfoldable pub lengths_wrong : Reducing → ℕ → ℕ → Lengths → Bool
lengths_wrong by kind n s =
    lent_wrong by s.reduction s.scale s.pixels s.opaque n
    || (rooms_wrong s.places s.oklab || (not (eqb s.out (4 * n)) || not (eqb s.cells (cells_needed kind n))))

-- 5: "Tile sides 1..4096, limit 0..256"
unfoldable pub budget_wrong : Settings → Bool
budget_wrong s = side_wrong s.tile_width || (side_wrong s.tile_height || ltb 256 s.limit)

-- the numbers that need no look at a pixel, in their order, and all that this call can answer with
abbrev pub checks : Settings → Lengths → List Reply
checks s lengths =
    1 if (not (is_kind s.kind) || not (is_pairing s.reducing s.shift))
    ∷ 15 if is_retired s.kind
    ∷ 2 if bounds_wrong s
    ∷ 3 if lengths_wrong s.reducing s.kind (s.width * s.height) lengths
    ∷ 5 if budget_wrong s
    ∷ []

abbrev pub replies : Commission → Buffers → List Reply
replies q b = checks q.settings (lengths_of q b) ++ 7 if too_many (candidate_list q) b.places ∷ 8 if over_budget q ∷ []

-- ---- the promise

-- document 01's number of an error, and of an answer
abbrev pub error_number : DitherError → ℕ
error_number (TileOver tile n) = 8
error_number (Refused e) = number e

abbrev pub number_of : Result ℕ DitherError → ℕ
number_of (Ok n) = 0
number_of (Err e) = error_number e

-- what is answered with a number: how many candidates there are; with 8 the first tile that is over its limit, too
unfoldable pub answer_of : Commission → ℕ → Result ℕ DitherError
answer_of q n =
    cond (eqb n 0) (Ok (length (candidate_list q)))
    (Err (cond (eqb n 8) (TileOver (tile_over q) (length (candidate_list q))) (Refused (refusal n))))

-- what a buffer holds after number n: the result after 0, this after 8, and else what it held
abbrev pub leaves : {A : Type 0} → ℕ → (result over was : A) → A
leaves n result over was = cond (eqb n 8) over (after n result was)

-- the output pixels: those of the picture, all 0 after 8, or as they were
unfoldable pub out_after : Commission → List ℕ → ℕ → List ℕ
out_after q was n = leaves n (pixels_of q) (replicate (length was) 0) was

-- the cells: those of the drawn picture, all 0 after 8, or as they were
unfoldable pub cells_left : Commission → List ℤ → ℕ → List ℤ
cells_left q was n = leaves n (cells_after (dithering q) was) (replicate (length was) (pos 0)) was

-- the places: the candidates, after 8 too; all 0 after 7; or as they were
unfoldable pub places_after : Commission → List ℕ → ℕ → List ℕ
places_after q was n = cond (eqb n 7) (replicate (length was) 0) (leaves n (places_with (candidate_list q) was) (places_with (candidate_list q) was) was)

-- the floats beside them: the candidates' Oklab, after 8 too, or as they were
unfoldable pub oklab_after : Commission → List Float → ℕ → List Float
oklab_after q was n = leaves n (oklab_with q.scale (candidate_list q) was) (oklab_with q.scale (candidate_list q) was) was

-- all four
abbrev pub buffers_after : Commission → Buffers → ℕ → Buffers
buffers_after q was n = buffers (places_after q was.places n) (oklab_after q was.oklab n) (out_after q was.out n) (cells_left q was.cells n)

-- what `dither_to_mode` answers and leaves: r, and the buffers after its number, which held `was`
pub record DitheredToMode (q : Commission) (was : Buffers) (r : Result ℕ DitherError) (then : Buffers) : Type 0 where
  pub answer : Answers number_of (replies q was) (answer_of q) r
  pub candidate_places : then.places ≡ places_after q was.places (number_of r)
  pub candidate_oklab : then.oklab ≡ oklab_after q was.oklab (number_of r)
  pub picture : then.out ≡ out_after q was.out (number_of r)
  pub cell_buffer : then.cells ≡ cells_left q was.cells (number_of r)
