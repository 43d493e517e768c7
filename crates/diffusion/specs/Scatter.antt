-- Diffusion as a scan does it, scattered: one buffer with the cells of three channels, where those of the pixel i stand at 3 * i, 3 * i + 1
-- and 3 * i + 2; and that buffer at the end, pixel by pixel. Definitions only.
-- Written from document 01, "Diffusion runs row by row, left to right": "Targets outside the picture are dropped. A skipped pixel .. passes
-- nothing on. Cells start at 0 whatever was lent .. and are exact sixteenths"; and from document 02, Ask 11: "signed 16-bit counts of sixteenths,
-- three a pixel".
use Rattle.std.specs.Prelude.{◌≡◌, ℕ, zero, suc, ◌+◌, ◌*◌, ◌<◌, List, [], ◌∷◌, ℤ, pos, ◌+ℤ◌, ◌*ℤ◌, length, get_or, set, replicate}
use Rattle.lists.specs.Gather.{gather}
use Rattle.patterns.specs.declared.Target.{Target}
use Rattle.patterns.specs.Kernel.{Place, pixel, outside, landing}
use Rattle.diffusion.specs.Diffusion.{Picture, channel, residual_of, received, cell}

-- z more in the cell that stands at a place of the buffer
unfoldable pub more : List ℤ → ℕ → ℤ → List ℤ
more cells at z = set cells at (get_or cells at (pos 0) +ℤ z)

-- a send: weight times the residual r of each channel, to the place if it is a pixel
unfoldable pub send : List ℤ → (ℕ → ℤ) → Place → ℕ → List ℤ
send cells r (pixel i) w = more (more (more cells (3 * i) (r 0 *ℤ pos w)) (3 * i + 1) (r 1 *ℤ pos w)) (3 * i + 2) (r 2 *ℤ pos w)
send cells r outside w = cells

-- all the sends of the pixel j, in the kernel's order
unfoldable pub sends : List ℤ → (ℕ → ℤ) → List Target → ℕ → ℕ → ℕ → List ℤ
sends cells r [] w h j = cells
sends cells r (t ∷ k) w h j = sends (send cells r (landing w h j t) t.weight) r k w h j

-- the pixel n's residual in the channel a, from its cell in the buffer
abbrev pub left_over : Picture → ℕ → List ℤ → ℕ → ℤ
left_over p n cells a = residual_of (channel p a) n (get_or cells (3 * n + a) (pos 0))

-- the buffer after the first n pixels
unfoldable pub scatter : List Target → Picture → ℕ → List ℤ
scatter k p zero = replicate (3 * (p.width * p.height)) (pos 0)
scatter k p (suc n) = sends (scatter k p n) (left_over p n (scatter k p n)) k p.width p.height n

-- the buffer holds what each pixel received from the first n pixels: what `scatter` is, and all that it is (proofs/Scatter)
pub record Holds (k : List Target) (p : Picture) (n : ℕ) (cells : List ℤ) : Type 0 where
  pub size : length cells ≡ 3 * (p.width * p.height)
  pub each : (a i : ℕ) → a < 3 → i < p.width * p.height → get_or cells (3 * i + a) (pos 0) ≡ received k (channel p a) n i

-- the pixel i's three cells
abbrev pub cells_at : List Target → Picture → ℕ → List ℤ
cells_at k p i = cell k (channel p 0) i ∷ cell k (channel p 1) i ∷ cell k (channel p 2) i ∷ []

-- what a lent buffer of cells holds once the picture is drawn
unfoldable pub cell_buffer : List Target → Picture → List ℤ
cell_buffer k p = gather (p.width * p.height) (cells_at k p)
