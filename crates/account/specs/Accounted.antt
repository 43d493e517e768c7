-- The colour account at the buffers of an accepted call: the pixels that were lent, the pixels and the cells that are left. Definitions only.
-- Written from document 01, "Loss at a dithered pixel": "In demand 3 'chosen' is the normalised choice, and a pixel is dithered if it isn't skipped";
-- "Diffusion runs row by row": "exact sixteenths within ±255"; and "How firm each promise is": "Demand 3 alone would pass a copy of the source, so it
-- speaks of demand 2's picture". The five terms are defined in `diffusion` (specs/Account), what is chosen and skipped in `drawing`.
use Rattle.std.specs.Prelude.{◌≡◌, ℕ, ◌+◌, ◌*◌, ◌≤◌, ◌<◌, not, List, ℤ, pos, negsuc, nat_abs, ◌+ℤ◌, ◌≤ℤ◌, length, get_or}
use Rattle.color.specs.declared.NormalizedColor.{NormalizedColor}
use Rattle.color.specs.Color.{rgba, normalized_at}
use Rattle.patterns.specs.declared.Target.{Target}
use Rattle.patterns.specs.Kernel.{total}
use Rattle.patterns.specs.Kinds.{kernel_of, held_of}
use Rattle.diffusion.specs.Diffusion.{Picture, channel, loss_of, Follows}
use Rattle.diffusion.specs.Scatter.{cell_buffer}
use Rattle.diffusion.specs.Account.{excess, lost, to_skipped, dropped, held}
use Rattle.drawing.specs.Drawing.{Drawing, nearest_color}

-- the picture that two buffers hold, four bytes a pixel: its sources are the bytes lent, its choices the bytes left
abbrev pub picture_in : Drawing → (pixels out : List ℕ) → Picture
picture_in d pixels out = record {
  width = d.width;
  height = d.height;
  dithered = λ i. not (d.skipped i);
  source = λ a i. get_or pixels (4 * i + a) 0;
  chosen = λ a i. get_or out (4 * i + a) 0;
}

-- what is left of pixel i with those biased bytes: the candidate nearest to the biased colour, normalised
abbrev pub left_of : Drawing → List ℕ → (i r g b : ℕ) → NormalizedColor
left_of d pixels i r g b = d.normalize (nearest_color d.candidates (record { 0 = rgba r g b (get_or pixels (4 * i + 3) 0) }))

-- the cell of pixel i's channel a, as the buffer has it
abbrev pub cell_in : List ℤ → (a i : ℕ) → ℤ
cell_in cells a i = get_or cells (3 * i + a) (pos 0)

-- the account of a channel, from the cells in the buffer: sixteen times sources less choices is what was lost, what reached skipped pixels, what was
-- dropped past the edges, and what was held back, h sixteenths of each residual
abbrev pub Balanced : List Target → ℕ → Picture → List ℤ → ℕ → Type 0
Balanced k h p cells a =
    excess (channel p a)
    ≡ lost (channel p a) (cell_in cells a)
    +ℤ to_skipped k (channel p a) (cell_in cells a)
    +ℤ dropped k (channel p a) (cell_in cells a)
    +ℤ held h (channel p a) (cell_in cells a)

-- 16·source + cell lies from 0 to 4080, so that nothing is clipped
pub record Unclipped (source : ℕ) (cell : ℤ) : Type 0 where
  pub low : pos 0 ≤ℤ (pos (source * 16) +ℤ cell)
  pub high : (pos (source * 16) +ℤ cell) ≤ℤ pos 4080

-- the loss lies from -8 to 7
pub record Small (source : ℕ) (cell : ℤ) : Type 0 where
  pub low : negsuc 7 ≤ℤ loss_of source cell
  pub high : loss_of source cell ≤ℤ pos 7

-- the account of a diffused picture, from the bytes that were lent and the bytes and cells that are left
pub record Accounted (d : Drawing) (pixels out : List ℕ) (cells : List ℤ) : Type 0 where
  -- demand 2's picture: each dithered pixel's bytes follow from its biased bytes, and these from the pixels before it. There is one such picture;
  -- a copy of the source is it only where every dithered pixel has a candidate's colour already (proofs/OneWay)
  pub chosen : Follows (left_of d pixels) (kernel_of d.kind) (picture_in d pixels out) (normalized_at out) (d.width * d.height)
  -- its cells are the cells that are left
  pub cell_buffer : cells ≡ cell_buffer (kernel_of d.kind) (picture_in d pixels out)
  -- and these lie within 255 either way, 4080 sixteenths, where `out` holds bytes, as a lent buffer of them does
  pub cells_within : ((i : ℕ) → get_or out i 0 ≤ 255) → (i : ℕ) → i < length cells → nat_abs (get_or cells i (pos 0)) ≤ 4080
  -- its red, green and blue, with what the table says that the kind holds back: Atkinson four sixteenths of each residual, Floyd-Steinberg none
  pub balanced : (a : ℕ) → a < 3 → Balanced (kernel_of d.kind) (held_of d.kind) (picture_in d pixels out) cells a
  -- that and what the kernel passes on are all sixteen
  pub all_sixteen : total (kernel_of d.kind) + held_of d.kind ≡ 16
  -- what rounding takes of a pixel that is not clipped
  pub small : (a i : ℕ) → a < 3 → Unclipped (get_or pixels (4 * i + a) 0) (cell_in cells a i) → Small (get_or pixels (4 * i + a) 0) (cell_in cells a i)
