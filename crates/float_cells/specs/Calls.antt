-- `quantize_pixels` and `dither_to_mode` with f32 cells, as they were before they were lent sixteenths: the same promises, where the picture is the one
-- that the original's f32 arithmetic draws, and 3 measures the length of a buffer of floats. Definitions only.
-- Written from document 02, Ask 11: "Indices, pixels and refusals are proved equal to those with f32 cells for both kernels".
use Rattle.std.specs.Prelude.{ℕ, ◌≡◌, Bool, true, cond, List, [], ◌∷◌, ◌++◌, map, eqb, ltb, ℤ, length, replicate, Float}
use Rattle.replies.specs.Replies.{Reply, ◌if◌, after}
use Rattle.replies.specs.Answers.{Answers}
use Rattle.floats.specs.Over.{sixteenths}
use Rattle.floats.specs.Bytes.{zero_f}
use Rattle.picture.specs.Pixels.{is_seen}
use Rattle.patterns.specs.Kinds.{is_diffusion}
use Rattle.drawing.specs.Finished.{finished_bytes}
use Rattle.candidates.specs.Rooms.{too_many}
use Rattle.judging.specs.Tiles.{first_over}
use Rattle.std.specs.Prelude.{Result, Ok, Err}
use Rattle.replies.specs.Refusals.{number_of, Answered, refusal}
use Rattle.replies.specs.declared.Refusal.{Refusal}
use Rattle.quantize.specs.Quantize as quantize
use Rattle.quantize.specs.Quantize.{quantizing, index_bytes, entries}
use Rattle.dither.specs.declared.DitherError.{DitherError}
use Rattle.dither.specs.declared.DitherError.TheVariants.{TileOver, Refused}
use Rattle.dither.specs.declared.Lengths.{Lengths}
use Rattle.dither.specs.Mode as mode
use Rattle.dither.specs.Mode.{dithering, reduced_of, candidate_list, tiles, leaves, places_after, oklab_after}
use Rattle.float_cells.specs.Arithmetic.{sixteen_times}
use Rattle.float_cells.specs.Drawn.{drawn_f, error_f}

-- ---- `quantize_pixels`
pub record QuantizedF (q : quantize.Commission) (indices₀ out₀ : List ℕ) (cells₀ : List Float) (r : Result Unit Refusal) (indices out : List ℕ)
    (cells : List Float) : Type 0 where
  pub answer : Answered (quantize.replies q indices₀ out₀ cells₀) tt r
  pub index_buffer :
      indices
      ≡ after (number_of r) (index_bytes q.palette (entries q) (quantizing q).reduced (drawn_f (quantizing q)) (quantize.size q)) indices₀
  pub picture :
      out
      ≡ after (number_of r) (finished_bytes (quantizing q).normalize (is_seen (quantizing q).reduced) (drawn_f (quantizing q)) (quantize.size q)) out₀
  pub cell_buffer : cells ≡ after (number_of r) (error_f (quantizing q) cells₀) cells₀

-- a result with sixteenths and one with floats: one answer, one picture; sixteen times the floats are the sixteenths, and the floats are these exactly
pub record SameQuantized (q : quantize.Commission) (r s : Result Unit Refusal) (indices indices' out out' : List ℕ) (cells : List ℤ) (floats : List Float) : Type 0 where
  pub answer : r ≡ s
  pub index_buffer : indices ≡ indices'
  pub picture : out ≡ out'
  pub cell_buffer : number_of r ≡ 0 → is_diffusion q.kind ≡ true → map sixteen_times floats ≡ cells
  pub exact : number_of r ≡ 0 → is_diffusion q.kind ≡ true → floats ≡ map sixteenths cells

-- ---- `dither_to_mode`
-- what the caller lends to be written
pub record BuffersF : Type 0 where
  pub places : List ℕ
  pub oklab : List Float
  pub out : List ℕ
  pub cells : List Float

-- the same buffers, but floats for cells
abbrev pub with_floats : mode.Buffers → List Float → BuffersF
with_floats b floats = record { places = b.places; oklab = b.oklab; out = b.out; cells = floats }

-- how long each lent buffer is
abbrev pub lengths_f : mode.Commission → BuffersF → Lengths
lengths_f q b = record {
  reduction = length q.reduction;
  scale = length q.scale;
  pixels = length q.pixels;
  opaque = length q.opaque;
  places = length b.places;
  oklab = length b.oklab;
  out = length b.out;
  cells = length b.cells;
}

-- the first tile that is over its limit
unfoldable pub tile_over_f : mode.Commission → ℕ
tile_over_f q =
    let s = q.settings in
    first_over (is_seen (reduced_of q)) (drawn_f (dithering q)) s.width s.height s.tile_width s.tile_height s.limit

unfoldable pub over_budget_f : mode.Commission → Bool
over_budget_f q = ltb (tile_over_f q) (tiles q.settings)

abbrev pub replies_f : mode.Commission → BuffersF → List Reply
replies_f q b = mode.checks q.settings (lengths_f q b) ++ 7 if too_many (candidate_list q) b.places ∷ 8 if over_budget_f q ∷ []

unfoldable pub answer_f : mode.Commission → ℕ → Result ℕ DitherError
answer_f q n =
    cond (eqb n 0) (Ok (length (candidate_list q)))
    (Err (cond (eqb n 8) (TileOver (tile_over_f q) (length (candidate_list q))) (Refused (refusal n))))

pub record DitheredToModeF (q : mode.Commission) (was : BuffersF) (r : Result ℕ DitherError) (then : BuffersF) : Type 0 where
  pub answer : Answers mode.number_of (replies_f q was) (answer_f q) r
  pub candidate_places : then.places ≡ places_after q was.places (mode.number_of r)
  pub candidate_oklab : then.oklab ≡ oklab_after q was.oklab (mode.number_of r)
  pub picture :
      then.out
      ≡ leaves (mode.number_of r) (finished_bytes (dithering q).normalize (is_seen (dithering q).reduced) (drawn_f (dithering q)) (mode.size q))
      (replicate (length was.out) 0) was.out
  pub cell_buffer :
      then.cells ≡ leaves (mode.number_of r) (error_f (dithering q) was.cells) (replicate (length was.cells) zero_f) was.cells

pub record SameDithered (q : mode.Commission) (r s : Result ℕ DitherError) (then : mode.Buffers) (then' : BuffersF) : Type 0 where
  pub answer : r ≡ s
  pub candidate_places : then.places ≡ then'.places
  pub candidate_oklab : then.oklab ≡ then'.oklab
  pub picture : then.out ≡ then'.out
  pub cell_buffer : mode.number_of r ≡ 0 → is_diffusion q.settings.kind ≡ true → map sixteen_times then'.cells ≡ then.cells
  pub exact : mode.number_of r ≡ 0 → is_diffusion q.settings.kind ≡ true → then'.cells ≡ map sixteenths then.cells
