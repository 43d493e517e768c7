-- Error diffusion over a picture, gathered: for each channel, in sixteenths, what a pixel's cell holds. Definitions only.
-- Written from document 01, "Diffusion runs row by row, left to right": "Biased = source + cell, rounded .., clipped ..", "Residual = biased -
-- chosen normalised", "A skipped pixel .. passes nothing on", "Cells start at 0"; and "Loss at a dithered pixel .. is 16·source + cell - 16·biased".
-- Pixels are numbered row by row from 0.
use Rattle.std.specs.Prelude.{◌≡◌, ℕ, zero, suc, ◌+◌, ◌*◌, ◌<◌, Bool, true, false, cond, List, [], ◌∷◌, eqb, ℤ, pos, ◌+ℤ◌, ◌-ℤ◌, ◌*ℤ◌}
use Rattle.patterns.specs.declared.Target.{Target}
use Rattle.patterns.specs.Kernel.{Place, pixel, outside, landing}
use Rattle.diffusion.specs.Biased.{biased_of}

-- one channel of a picture: which pixels are dithered, the source, and the normalised choice
pub record Channel : Type 0 where
  pub width : ℕ
  pub height : ℕ
  pub dithered : ℕ → Bool
  pub source : ℕ → ℕ
  pub chosen : ℕ → ℕ

-- three channels, numbered from 0: red, green, blue
pub record Picture : Type 0 where
  pub width : ℕ
  pub height : ℕ
  pub dithered : ℕ → Bool
  pub source : ℕ → ℕ → ℕ
  pub chosen : ℕ → ℕ → ℕ

abbrev pub channel : Picture → ℕ → Channel
channel p a = record { width = p.width; height = p.height; dithered = p.dithered; source = p.source a; chosen = p.chosen a }

-- the place is the pixel i
unfoldable pub is_at : ℕ → Place → Bool
is_at i (pixel k) = eqb k i
is_at i outside = false

-- weight(j → i): the weights of those targets of the pixel j that are the pixel i
unfoldable pub weight_to : List Target → ℕ → ℕ → ℕ → ℕ → ℕ
weight_to [] w h j i = 0
weight_to (t ∷ k) w h j i = cond (is_at i (landing w h j t)) t.weight 0 + weight_to k w h j i

-- biased less chosen, for the pixel i whose cell holds z; nothing where i is skipped
unfoldable pub residual_of : Channel → ℕ → ℤ → ℤ
residual_of c i z = cond (c.dithered i) (pos (biased_of (c.source i) z) -ℤ pos (c.chosen i)) (pos 0)

-- what the pixel i got from the first n pixels, each of which passed on the residual that its own cell gave it: the sum over j < n of
-- residual(j) · weight(j → i) (proofs/Received, `received-sum`)
unfoldable pub received : List Target → Channel → ℕ → ℕ → ℤ
received k c zero i = pos 0
received k c (suc n) i = received k c n i +ℤ residual_of c n (received k c n n) *ℤ pos (weight_to k c.width c.height n i)

-- the pixel i's cell: the sum over all earlier pixels (`cell-sum`), and nothing else is that sum at every pixel (`cell_only`)
unfoldable pub cell : List Target → Channel → ℕ → ℤ
cell k c i = received k c i i

unfoldable pub biased : List Target → Channel → ℕ → ℕ
biased k c i = biased_of (c.source i) (cell k c i)

unfoldable pub residual : List Target → Channel → ℕ → ℤ
residual k c i = residual_of c i (cell k c i)

-- 16·source + cell - 16·biased: what rounding and clipping took
unfoldable pub loss_of : ℕ → ℤ → ℤ
loss_of s z = pos (s * 16) +ℤ z -ℤ pos (biased_of s z * 16)

unfoldable pub loss : List Target → Channel → ℕ → ℤ
loss k c i = loss_of (c.source i) (cell k c i)

-- two channels are the same before the pixel n; of skipped pixels the choice does not count
pub record Alike (c c' : Channel) (n : ℕ) : Type 0 where
  pub width : c.width ≡ c'.width
  pub height : c.height ≡ c'.height
  pub dithered : (j : ℕ) → j < n → c.dithered j ≡ c'.dithered j
  pub source : (j : ℕ) → j < n → c.source j ≡ c'.source j
  pub chosen : (j : ℕ) → j < n → c.dithered j ≡ true → c.chosen j ≡ c'.chosen j

-- among the first n pixels, the choice at each dithered pixel follows by the rule from the pixel's three biased bytes. What is chosen may be
-- of any type; the picture's `chosen` are its normalised bytes. The choices follow in one way only (proofs/Unique)
abbrev pub Follows : {X : Type 0} → (ℕ → ℕ → ℕ → ℕ → X) → List Target → Picture → (ℕ → X) → ℕ → Type 0
Follows rule k p choice n =
    (i : ℕ) → i < n → p.dithered i ≡ true → choice i ≡ rule i (biased k (channel p 0) i) (biased k (channel p 1) i) (biased k (channel p 2) i)
