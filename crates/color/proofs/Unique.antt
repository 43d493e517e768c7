-- The public calls of `color` leave one answer each. Assumes nothing.
use mathlib.Core.Bool.{Bool}
use lib.Ieee.{Float}
use Rattle.std.specs.Prelude.{Result}
use Rattle.replies.specs.declared.Refusal.{Refusal}
use Rattle.replies.specs.Unique.{Unique}
use Rattle.replies.proofs.UniqueLaws.{equal_only}
use Rattle.replies.proofs.AnswerLaws.{answers_only}
use Rattle.color.specs.declared.ReducedColor.{ReducedColor}
use Rattle.color.specs.declared.Oklab.{Oklab}
use Rattle.color.specs.Color.{same_rgb, EqRgbAnswered}
use Rattle.color.specs.Oklab.{OklabSqdistAnswered}

pub eq_rgb_unique : (a b : ReducedColor) → Unique (λ (t : Bool). EqRgbAnswered a b t)
eq_rgb_unique a b = equal_only (same_rgb a b)

pub oklab_sqdist_unique : (a b : Oklab) → Unique (λ (r : Result Float Refusal). OklabSqdistAnswered a b r)
oklab_sqdist_unique a b = answers_only _ _ _
