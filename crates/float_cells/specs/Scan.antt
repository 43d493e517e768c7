-- The original's scan over a picture whose pixels choose by a rule, with any kernel: the f32 cells after each pixel, three a pixel, and what each pixel
-- chooses by them. Definitions only.
-- Written from `diffusion_color_at` and `diffuse` of src/dither.rs: `vec![[0.0f32; 3]; ..]`, `self.error[index][c] += r * ratio`, targets outside the
-- picture passed over; a pixel that is skipped is never given to them.
use Rattle.std.specs.Prelude.{ℕ, zero, suc, ◌+◌, ◌*◌, Bool, cond, List, [], ◌∷◌, get_or, set, replicate, Float}
use Rattle.std.specs.Float.{nan, binary32}
use Rattle.std.specs.Float.Ieee.{add, mul}
use Rattle.floats.specs.Bytes.{zero_f}
use Rattle.patterns.specs.declared.Target.{Target}
use Rattle.patterns.specs.Kernel.{Place, pixel, outside, landing}
use Rattle.diffusion.specs.Diffusion.{Picture}
use Rattle.float_cells.specs.Arithmetic.{biased_f, residual_f, ratio_f}

-- what is diffused over: which pixels are dithered, their sources by channel and pixel, what a pixel chooses with three biased bytes, and a choice's
-- normalised bytes by channel. What is chosen may be of any type
pub record Scene (X : Type 0) : Type 0 where
  pub width : ℕ
  pub height : ℕ
  pub dithered : ℕ → Bool
  pub source : ℕ → ℕ → ℕ
  pub rule : ℕ → ℕ → ℕ → ℕ → X
  pub bytes : ℕ → X → ℕ

-- the picture where pixel i chose `chosen i`
abbrev pub picture_of : {X : Type 0} → Scene X → (ℕ → X) → Picture
picture_of s chosen =
    record { width = s.width; height = s.height; dithered = s.dithered; source = s.source; chosen = λ a i. s.bytes a (chosen i) }

-- x more in the cell that stands at a place
unfoldable pub more_f : List Float → ℕ → Float → List Float
more_f error at x = set error at (add binary32 (get_or error at nan) x)

-- a send to a place, if it is a pixel: `r * ratio` in each channel
unfoldable pub send_f : List Float → (ℕ → Float) → Place → Float → List Float
send_f error r (pixel i) ratio =
    more_f (more_f (more_f error (3 * i) (mul binary32 (r 0) ratio)) (3 * i + 1) (mul binary32 (r 1) ratio)) (3 * i + 2) (mul binary32 (r 2) ratio)
send_f error r outside ratio = error

-- `diffuse`: the sends of pixel j, in the kernel's order
unfoldable pub diffuse_f : List Float → (ℕ → Float) → List Target → ℕ → ℕ → ℕ → List Float
diffuse_f error r [] w h j = error
diffuse_f error r (t ∷ k) w h j = diffuse_f (send_f error r (landing w h j t) (ratio_f t)) r k w h j

module _ {X : Type 0} (s : Scene X) where
  -- pixel i's biased byte in channel a, what it chooses, and what is left in channel a, with these cells
  abbrev pub biased_at : List Float → ℕ → ℕ → ℕ
  biased_at error i a = biased_f (s.source a i) (get_or error (3 * i + a) nan)

  abbrev pub chosen_at : List Float → ℕ → X
  chosen_at error i = s.rule i (biased_at error i 0) (biased_at error i 1) (biased_at error i 2)

  abbrev pub left_at : List Float → ℕ → ℕ → Float
  left_at error i a = residual_f (biased_at error i a) (s.bytes a (chosen_at error i))

  -- the cells after the first n pixels
  unfoldable pub error_after : List Target → ℕ → List Float
  error_after k zero = replicate (3 * (s.width * s.height)) zero_f
  error_after k (suc n) =
      cond (s.dithered n) (diffuse_f (error_after k n) (left_at (error_after k n) n) k s.width s.height n) (error_after k n)

  -- what the dithered pixel i chooses
  unfoldable pub chosen_f : List Target → ℕ → X
  chosen_f k i = chosen_at (error_after k i) i
