-- The public calls of `mixing` leave one answer each. Assumes nothing.
use mathlib.Core.Bool.{Bool}
use Prim.Native.Nat.{ℕ}
use lib.Ieee.{Float}
use Rattle.std.specs.Prelude.{Result}
use Rattle.replies.specs.Unique.{Unique}
use Rattle.replies.specs.declared.Refusal.{Refusal}
use Rattle.replies.proofs.UniqueLaws.{equal_only}
use Rattle.replies.proofs.AnswerLaws.{answers_only}
use Rattle.color.specs.declared.NormalizedColor.{NormalizedColor}
use Rattle.mixing.specs.Lerp.{lerp_of, LerpAnswered}
use Rattle.mixing.specs.Widths.{BracketWidthAnswered}

pub lerp_unique : (c1 c2 color : NormalizedColor) (clamp : Bool) → Unique (λ (r : Float). LerpAnswered c1 c2 color clamp r)
lerp_unique c1 c2 color clamp = equal_only (lerp_of c1 c2 color clamp)

pub bracket_width_unique : (shift max : ℕ) → Unique (λ (r : Result ℕ Refusal). BracketWidthAnswered shift max r)
bracket_width_unique shift max = answers_only _ _ _
