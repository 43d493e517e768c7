-- The colour account of a dithered picture's channel, in sixteenths: sources less choices, and the four terms that it adds up to. A term that
-- needs the pixels' cells is given them, whoever holds them: a lent buffer's are read as they are. Definitions only.
-- Written from document 01, "Loss at a dithered pixel": "Besides the losses, the terms add up weight times residual over the sends to skipped
-- pixels, over the dropped sends, and over Atkinson's held-back weight of 4"; "'chosen' is the normalised choice, and a pixel is dithered if it
-- isn't skipped".
use Rattle.std.specs.Prelude.{ℕ, ◌*◌, Bool, true, false, cond, not, List, [], ◌∷◌, ℤ, pos, ◌+ℤ◌, ◌-ℤ◌, ◌*ℤ◌}
use Rattle.patterns.specs.declared.Target.{Target}
use Rattle.patterns.specs.Kernel.{Place, pixel, outside, landing}
use Rattle.diffusion.specs.Sum.{sum}
use Rattle.diffusion.specs.Diffusion.{Channel, residual_of, loss_of}

-- the sum of f over the dithered pixels
unfoldable pub over_dithered : Channel → (ℕ → ℤ) → ℤ
over_dithered c f = sum (λ i. cond (c.dithered i) (f i) (pos 0)) (c.width * c.height)

unfoldable pub sources : Channel → ℤ
sources c = over_dithered c (λ i. pos (c.source i))

unfoldable pub choices : Channel → ℤ
choices c = over_dithered c (λ i. pos (c.chosen i))

-- what the picture's sources exceed its choices by
unfoldable pub excess : Channel → ℤ
excess c = pos 16 *ℤ (sources c -ℤ choices c)

-- what rounding and clipping took, where the pixel i's cell holds `cells i`
unfoldable pub lost : Channel → (ℕ → ℤ) → ℤ
lost c cells = over_dithered c (λ i. loss_of (c.source i) (cells i))

-- weight times r over those sends of the pixel i whose place passes the test
unfoldable pub sent : (Place → Bool) → List Target → ℕ → ℕ → ℕ → ℤ → ℤ
sent test [] w h i r = pos 0
sent test (t ∷ k) w h i r = cond (test (landing w h i t)) (r *ℤ pos t.weight) (pos 0) +ℤ sent test k w h i r

-- weight times residual over all such sends of the dithered pixels
unfoldable pub sent_to : (Place → Bool) → List Target → Channel → (ℕ → ℤ) → ℤ
sent_to test k c cells = over_dithered c (λ i. sent test k c.width c.height i (residual_of c i (cells i)))

-- a pixel that is not dithered
unfoldable pub is_skipped : Channel → Place → Bool
is_skipped c (pixel i) = not (c.dithered i)
is_skipped c outside = false

unfoldable pub is_outside : Place → Bool
is_outside (pixel i) = false
is_outside outside = true

-- what reached skipped pixels
unfoldable pub to_skipped : List Target → Channel → (ℕ → ℤ) → ℤ
to_skipped k c cells = sent_to (is_skipped c) k c cells

-- what was dropped, past the edges
unfoldable pub dropped : List Target → Channel → (ℕ → ℤ) → ℤ
dropped k c cells = sent_to is_outside k c cells

-- what was held back: h sixteenths of each residual
unfoldable pub held : ℕ → Channel → (ℕ → ℤ) → ℤ
held h c cells = over_dithered c (λ i. residual_of c i (cells i) *ℤ pos h)
