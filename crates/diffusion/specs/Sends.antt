-- What the functions of `diffusion` need and promise of one pixel's sends. Definitions only.
-- Written from document 01, "Diffusion runs row by row, left to right" ("exact sixteenths within ±255", which are 4,080 of them), and "Bounds and
-- replies" for the size of a picture.
use Rattle.std.specs.Prelude.{ℕ, zero, suc, ◌+◌, ◌*◌, ◌≤◌, ◌<◌, List, Option, Some, None, ℤ, pos, nat_abs, ◌-ℤ◌, get_or}
use Rattle.color.specs.declared.Rgba8888.{Rgba8888}
use Rattle.patterns.specs.declared.Target.{Target}
use Rattle.patterns.specs.Kernel.{Place, pixel, outside}
use Rattle.diffusion.specs.declared.residual.Residual.{Residual}
use Rattle.diffusion.specs.Diffusion.{weight_to}

-- the place of a pixel's number, or of none
abbrev pub place_of : Option ℕ → Place
place_of (Some i) = pixel i
place_of None = outside

-- a colour's bytes by the channel's number: red, green, blue
abbrev pub byte_in : ℕ → Rgba8888 → ℕ
byte_in zero c = c.r
byte_in (suc zero) c = c.g
byte_in (suc (suc a)) c = c.b

-- biased less chosen, by the channel's number
abbrev pub residuals_of : Rgba8888 → Rgba8888 → ℕ → ℤ
residuals_of biased chosen a = pos (byte_in a biased) -ℤ pos (byte_in a chosen)

-- the residuals of three channels, by the channel's number
abbrev pub in_order : Residual → ℕ → ℤ
in_order r zero = r.r
in_order r (suc zero) = r.g
in_order r (suc (suc a)) = r.b

-- a cell that stands at a place of the buffer has room for w sixteenths of any residual: it stays within 4,080 either way
abbrev pub RoomIn : List ℤ → ℕ → ℕ → Type 0
RoomIn cells at w = nat_abs (get_or cells at (pos 0)) + 255 * w ≤ 4080

-- so have the three cells of a pixel
abbrev pub RoomAt : List ℤ → Place → ℕ → Type 0
RoomAt cells (pixel i) w = (a : ℕ) → a < 3 → RoomIn cells (3 * i + a) w
RoomAt cells outside w = Unit {0}

-- every cell of a picture of width w and height h has room for all that the pixel j sends to it
abbrev pub Room : List Target → (w h j : ℕ) → List ℤ → Type 0
Room k w h j cells = (a i : ℕ) → a < 3 → i < w * h → RoomIn cells (3 * i + a) (weight_to k w h j i)
