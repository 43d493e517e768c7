-- The worked examples of document 01 that are marked P: what the definitions give, and what the document says, row by row. Definitions only.
-- Written from document 01, "Worked examples", with E5 as document 02, Ask 2, amends it. proofs/Examples has the one proof.
use Rattle.std.specs.Prelude.{ℕ, Bool, true, false, List, [], ◌∷◌, map, ℤ, pos, negsuc, ◌*ℤ◌, get_or, Float, Result, Ok, Err}
use Rattle.std.specs.Float.{fin}
use Rattle.replies.specs.Refusals.{number}
use Rattle.replies.specs.declared.Refusal.{Refusal}
use Rattle.color.specs.declared.NormalizedColor.{NormalizedColor}
use Rattle.color.specs.Color.{rgba}
use Rattle.floats.specs.Bytes.{zero_f, one_f}
use Rattle.floats.specs.Over.{over}
use Rattle.mixing.specs.Lerp.{lerp_of}
use Rattle.mixing.specs.Widths.{bracket_width_of}
use Rattle.patterns.specs.Thresholds.{threshold_of}
use Rattle.conversion.specs.Linear.{linear_of}
use Rattle.conversion.specs.Oklab.{Millionths, millionths_at}
use Rattle.patterns.specs.declared.Dither.TheVariants.{Atkinson, FloydSteinberg}
use Rattle.patterns.specs.declared.Target.{Target}
use Rattle.patterns.specs.Kinds.{Way, way, kernel_in, held_in}
use Rattle.diffusion.specs.Biased.{biased_of}
use Rattle.diffusion.specs.Diffusion.{Channel, cell, residual, loss_of}
use Rattle.diffusion.specs.Account.{excess, lost, sent, is_outside, to_skipped, dropped, held}

-- what an example speaks of: a whole number, an f32, or a refusal
pub data Value : Type 0 where
  whole : ℤ → Value
  float : Float → Value
  refusal : ℕ → Value

-- an example: its number, what the definitions give, and what the document says
pub record Row : Type 0 where
  pub number : ℕ
  pub given : List Value
  pub said : List Value

abbrev pub row : ℕ → List Value → List Value → Row
row n given said = record { number = n; given = given; said = said }

abbrev pub opaque : ℕ → ℕ → ℕ → NormalizedColor
opaque r g b = record { 0 = rgba r g b 255 }

abbrev pub natural : ℕ → Value
natural n = whole (pos n)

-- an answer: what the result is, or the refusal's number
abbrev pub answer_value : {A : Type 0} → (A → Value) → Result A Refusal → Value
answer_value value (Ok x) = value x
answer_value value (Err e) = refusal (number e)

-- a width
abbrev pub width : ℕ → ℕ → Value
width shift max = answer_value natural (bracket_width_of shift max)

-- a threshold
abbrev pub threshold : ℕ → ℕ → ℕ → Value
threshold kind x y = answer_value float (threshold_of kind x y)

-- `lerp` from black to (10, 0, 0), and between equal ends
abbrev pub to_red : ℕ → ℕ → ℕ → Value
to_red r g b = float (lerp_of (opaque 0 0 0) (opaque 10 0 0) (opaque r g b) false)

abbrev pub to_red_clamped : ℕ → ℕ → ℕ → Value
to_red_clamped r g b = float (lerp_of (opaque 0 0 0) (opaque 10 0 0) (opaque r g b) true)

abbrev pub equal_ends : Value
equal_ends = float (lerp_of (opaque 10 0 0) (opaque 10 0 0) (opaque 5 200 7) false)

-- a colour's millionths
abbrev pub millionth_values : Millionths → List Value
millionth_values m = whole m.lightness ∷ whole m.a ∷ whole m.b ∷ []

-- the biased byte of a source and a cell, and the loss
abbrev pub rounded : ℕ → ℤ → List Value
rounded source cell = natural (biased_of source cell) ∷ whole (loss_of source cell) ∷ []

-- two pixels in a row with the sources 80 and 0, the first dithered to black, and the second where the flag says so
abbrev pub pair : Bool → Channel
pair second =
    record {
      width = 2;
      height = 1;
      dithered = λ i. get_or (true ∷ second ∷ []) i false;
      source = λ i. get_or (80 ∷ 0 ∷ []) i 0;
      chosen = λ i. 0;
    }

-- what the pixel i sent past the edges, and what it held back
abbrev pub fell : List Target → Channel → ℕ → ℤ
fell k c i = sent is_outside k c.width c.height i (residual k c i)

abbrev pub kept : List Target → ℕ → Channel → ℕ → ℤ
kept k h c i = residual k c i *ℤ pos h

-- the account: sixteen times sources less choices; the losses; what reached skipped pixels; what was dropped, and of it each pixel's part; what
-- was held back, and of it each pixel's part
abbrev pub account_by : List Target → ℕ → Channel → List Value
account_by k h c =
    whole (excess c) ∷ whole (lost c (cell k c)) ∷ whole (to_skipped k c (cell k c))
    ∷ whole (dropped k c (cell k c)) ∷ whole (fell k c 0) ∷ whole (fell k c 1)
    ∷ whole (held h c (cell k c)) ∷ whole (kept k h c 0) ∷ whole (kept k h c 1)
    ∷ []

-- by the kernel of a kind, and what it holds back
abbrev pub account : Way → Channel → List Value
account w c = account_by (kernel_in w) (held_in w) c

abbrev pub naturals : List ℕ → List Value
naturals = map natural

abbrev pub table : List Row
table =
    row 1 (width 3 16 ∷ width 3 8 ∷ width 4 2 ∷ width 3 0 ∷ width 5 256 ∷ []) (natural 3 ∷ natural 2 ∷ natural 1 ∷ natural 1 ∷ natural 16 ∷ [])
    ∷ row 2 (threshold 3 2 0 ∷ threshold 2 1 2 ∷ threshold 1 5 2 ∷ threshold 7 0 0 ∷ threshold 7 0 1 ∷ [])
    (float (over 128 (pos 25)) ∷ float (over 32 (pos 23)) ∷ float (over 8 (pos 5)) ∷ float (over 4 (pos 3)) ∷ float (over 4 (pos 3)) ∷ [])
    ∷ row 3 (to_red 5 200 7 ∷ to_red 20 0 0 ∷ to_red_clamped 20 0 0 ∷ equal_ends ∷ [])
    (float (fin false 1 (negsuc 0)) ∷ float (fin false 1 (pos 1)) ∷ float one_f ∷ float zero_f ∷ [])
    ∷ row 4 (natural (linear_of 0) ∷ natural (linear_of 1) ∷ natural (linear_of 10) ∷ natural (linear_of 255) ∷ [])
    (natural 0 ∷ natural 30353 ∷ natural 303527 ∷ natural 100000000 ∷ [])
    ∷ row 5 (millionth_values (millionths_at (opaque 0 0 0))) (natural 0 ∷ natural 0 ∷ natural 0 ∷ [])
    ∷ row 5 (millionth_values (millionths_at (opaque 255 255 255))) (natural 1000000 ∷ natural 0 ∷ natural 0 ∷ [])
    ∷ row 6 (rounded 10 (pos 8)) (natural 11 ∷ whole (negsuc 7) ∷ [])
    ∷ row 6 (rounded 250 (pos 320)) (natural 255 ∷ natural 240 ∷ [])
    ∷ row 7 (account (way FloydSteinberg) (pair true)) (naturals (1280 ∷ 0 ∷ 0 ∷ 1280 ∷ 720 ∷ 560 ∷ 0 ∷ 0 ∷ 0 ∷ []))
    ∷ row 8 (account (way Atkinson) (pair true)) (naturals (1280 ∷ 0 ∷ 0 ∷ 920 ∷ 800 ∷ 120 ∷ 360 ∷ 320 ∷ 40 ∷ []))
    ∷ row 9 (account (way FloydSteinberg) (pair false)) (naturals (1280 ∷ 0 ∷ 560 ∷ 720 ∷ 720 ∷ 0 ∷ 0 ∷ 0 ∷ 0 ∷ []))
    ∷ []
