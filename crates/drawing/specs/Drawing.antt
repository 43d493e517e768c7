-- What each pixel of a picture chooses. A picture is said by functions of the pixel's number, row by row from 0; candidates by functions of
-- their position. Definitions only.
-- Written from document 01, "Choosing colours" and "Diffusion runs row by row, left to right".
use Rattle.std.specs.Prelude.{ℕ, zero, suc, ◌+◌, ◌/◌, ◌%◌, ◌<◌, ◌≡◌, Bool, cond, not, List, [], ◌∷◌, ◌++◌, get_or}
use Rattle.color.specs.declared.NormalizedColor.{NormalizedColor}
use Rattle.color.specs.declared.ReducedColor.{ReducedColor}
use Rattle.color.specs.Color.{rgba, transparent_reduced}
use Rattle.conversion.specs.Oklab.{to_oklab}
use Rattle.patterns.specs.Kinds.{is_ordered, is_diffusion, kernel_of}
use Rattle.patterns.specs.Thresholds.{threshold_at}
use Rattle.shortlist.specs.Candidates.{Candidates}
use Rattle.shortlist.specs.Nearest.{nearest_of}
use Rattle.lookup.specs.Bracket.{bracket_of, pick_at}
use Rattle.diffusion.specs.Diffusion.{Picture, channel, biased}
use Rattle.diffusion.specs.Sends.{byte_in}

-- a colour is one of the candidates
abbrev pub Among : Candidates → ReducedColor → Type 0
Among cs c = (k : ℕ) × (k < cs.count) × (c ≡ cs.reduced k)

-- what is drawn, and with what
pub record Drawing : Type 0 where
  pub width : ℕ
  pub height : ℕ
  pub origin_x : ℕ
  pub origin_y : ℕ
  pub kind : ℕ
  pub bracket_width : ℕ
  pub source : ℕ → NormalizedColor
  pub reduced : ℕ → ReducedColor
  pub skipped : ℕ → Bool
  pub candidates : Candidates
  pub normalize : ReducedColor → NormalizedColor

-- the candidate nearest to a colour
unfoldable pub nearest_color : Candidates → NormalizedColor → ReducedColor
nearest_color cs c = cs.reduced (nearest_of cs (to_oklab c))

-- what is picked of a colour's bracket in column x and row y
unfoldable pub ordered_color : Candidates → (kind bracket_width x y : ℕ) → NormalizedColor → ReducedColor
ordered_color cs kind bracket_width x y c = pick_at (bracket_of cs bracket_width (to_oklab c) c) (threshold_at kind x y)

-- a colour in column x and row y where no error is diffused: ordered kinds, what is picked of its bracket; Off, the nearest
unfoldable pub color_at : Candidates → (kind bracket_width x y : ℕ) → NormalizedColor → ReducedColor
color_at cs kind bracket_width x y c = cond (is_ordered kind) (ordered_color cs kind bracket_width x y c) (nearest_color cs c)

-- the picture that error is diffused over, where pixel i chose the colour `chosen i`
abbrev pub picture_of : Drawing → (ℕ → ReducedColor) → Picture
picture_of d chosen =
    record {
      width = d.width;
      height = d.height;
      dithered = λ i. not (d.skipped i);
      source = λ a i. byte_in a (d.source i).0;
      chosen = λ a i. byte_in a (d.normalize (chosen i)).0;
    }

-- pixel i's biased byte of channel a, by the choices before it
abbrev pub biased_in : Drawing → (ℕ → ReducedColor) → ℕ → ℕ → ℕ
biased_in d chosen a i = biased (kernel_of d.kind) (channel (picture_of d chosen) a) i

-- pixel i's biased colour; alpha is the source's
unfoldable pub biased_at : Drawing → (ℕ → ReducedColor) → ℕ → NormalizedColor
biased_at d chosen i = record { 0 = rgba (biased_in d chosen 0 i) (biased_in d chosen 1 i) (biased_in d chosen 2 i) (d.source i).0.a }

-- what a pixel that is not skipped chooses: diffusion kinds, the nearest to its biased colour; the others, its own colour in its column and
-- row, counted from the origin
unfoldable pub dithered_at : Drawing → (ℕ → ReducedColor) → ℕ → ReducedColor
dithered_at d chosen i =
    cond (is_diffusion d.kind) (nearest_color d.candidates (biased_at d chosen i))
    (color_at d.candidates d.kind d.bracket_width (d.origin_x + i % d.width) (d.origin_y + i / d.width) (d.source i))

-- what pixel i chooses, by the choices before it; a skipped pixel keeps its reduced colour
unfoldable pub choice_at : Drawing → (ℕ → ReducedColor) → ℕ → ReducedColor
choice_at d chosen i = cond (d.skipped i) (d.reduced i) (dithered_at d chosen i)

-- in the first n pixels, each chose what follows from the choices before it: what a drawn picture is, and all that it is (proofs/DrawnLaws)
abbrev pub Drawn : Drawing → (ℕ → ReducedColor) → ℕ → Type 0
Drawn d chosen n = (i : ℕ) → i < n → chosen i ≡ choice_at d chosen i

-- the choices of the first n pixels, in the order of the scan
unfoldable pub choices : Drawing → ℕ → List ReducedColor
choices d zero = []
choices d (suc n) = choices d n ++ choice_at d (λ j. get_or (choices d n) j transparent_reduced) n ∷ []

-- pixel i's choice
unfoldable pub drawn : Drawing → ℕ → ReducedColor
drawn d i = choice_at d (λ j. get_or (choices d i) j transparent_reduced) i
