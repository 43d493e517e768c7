-- The public calls of `lookup` leave one answer each. Assumes nothing.
use mathlib.Core.List.{List}
use Prim.Native.Nat.{ℕ}
use lib.Ieee.{Float}
use Rattle.std.specs.Prelude.{Result}
use Rattle.replies.specs.declared.Refusal.{Refusal}
use Rattle.replies.specs.Unique.{Unique}
use Rattle.replies.proofs.AnswerLaws.{answers_only}
use Rattle.color.specs.declared.NormalizedColor.{NormalizedColor}
use Rattle.lookup.specs.declared.Bracket.{Bracket}
use Rattle.lookup.specs.declared.Choice.{Choice}
use Rattle.lookup.specs.declared.Two.{Two}
use Rattle.lookup.specs.Answers.{FlatNearest, FlatTwo, FlatBracket, PickedAt}

pub pick_unique : (b : Bracket) (kind x y : ℕ) → Unique (λ (r : Result Choice Refusal). PickedAt b kind x y r)
pick_unique b kind x y = answers_only _ _ _

module _ (reduced normalized : List ℕ) (oklab : List Float) (color : NormalizedColor) where
  pub flat_nearest_unique : Unique (λ (r : Result ℕ Refusal). FlatNearest reduced normalized oklab color r)
  flat_nearest_unique = answers_only _ _ _

  pub flat_nearest_two_unique : (width : ℕ) → Unique (λ (r : Result Two Refusal). FlatTwo reduced normalized oklab color width r)
  flat_nearest_two_unique width = answers_only _ _ _

  pub flat_ordered_bracket_unique : (width : ℕ) → Unique (λ (r : Result Bracket Refusal). FlatBracket reduced normalized oklab color width r)
  flat_ordered_bracket_unique width = answers_only _ _ _
