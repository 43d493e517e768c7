-- What the steps of `dither_to_mode` need and promise. Definitions only.
-- Written from document 01, "Choosing colours" and "Bounds and replies".
use Rattle.std.specs.Prelude.{ℕ, ◌+◌, ◌*◌, ◌≤◌, ◌≡◌, true, cond, List, ℤ, pos, length, take, replicate, Float, Result, Ok, Err}
use Rattle.picture.specs.Bounds.{opaque_needed}
use Rattle.patterns.specs.Kinds.{is_diffusion}
use Rattle.mixing.specs.Widths.{is_shift}
use Rattle.drawing.specs.Lent.{cells_after}
use Rattle.dither.specs.declared.DitherError.{DitherError}
use Rattle.dither.specs.declared.DitherError.TheVariants.{TileOver}
use Rattle.dither.specs.Mode.{Commission, size, candidate_list, candidate_bytes, candidate_oklab, dithering, tile_over, over_budget, pixels_of}

-- what a picture has that no check refuses
pub record Fitting (q : Commission) (out : List ℕ) (cells : List ℤ) : Type 0 where
  pub shift : is_shift q.settings.shift ≡ true
  pub wide : q.settings.width ≤ 4096
  pub high : q.settings.height ≤ 4096
  pub small : size q ≤ 1048576
  pub across : q.settings.origin_x + q.settings.width ≤ 4294967295
  pub down : q.settings.origin_y + q.settings.height ≤ 4294967295
  pub reduction : length q.reduction ≡ 256
  pub scale : length q.scale ≡ 256
  pub pixels : length q.pixels ≡ 4 * size q
  pub opaque : length q.opaque ≡ opaque_needed q.settings.reducing (size q)
  pub out_long : length out ≡ 4 * size q
  pub cells_long : is_diffusion q.settings.kind ≡ true → length cells ≡ 3 * size q
  pub some_wide : 1 ≤ q.settings.tile_width
  pub tile_wide : q.settings.tile_width ≤ 4096
  pub some_high : 1 ≤ q.settings.tile_height
  pub tile_high : q.settings.tile_height ≤ 4096
  pub few : q.settings.limit ≤ 256

-- rooms whose fronts are the candidates and their Oklab
pub record Roomed (q : Commission) (places : List ℕ) (oklab : List Float) (count : ℕ) : Type 0 where
  pub counted : count ≡ length (candidate_list q)
  pub bytes : 4 * count ≤ length places
  pub floats : 3 * count ≤ length oklab
  pub colors : take (4 * count) places ≡ candidate_bytes (candidate_list q)
  pub converted : take (3 * count) oklab ≡ candidate_oklab q.scale (candidate_list q)

-- the answer, the output pixels and the cells of a picture whose candidates have places
pub record Completes (q : Commission) (out₀ : List ℕ) (cells₀ : List ℤ) (r : Result ℕ DitherError) (out : List ℕ) (cells : List ℤ) : Type 0 where
  pub answer : r ≡ cond (over_budget q) (Err (TileOver (tile_over q) (length (candidate_list q)))) (Ok (length (candidate_list q)))
  pub picture : out ≡ cond (over_budget q) (replicate (length out₀) 0) (pixels_of q)
  pub cell_buffer : cells ≡ cond (over_budget q) (replicate (length cells₀) (pos 0)) (cells_after (dithering q) cells₀)
