-- The public calls of `records` leave one answer each: two results of a call's promise are equal. Assumes nothing.
use Rattle.std.proofs.Common.{ℕ, List}
use Rattle.std.specs.Prelude.{Option, Result}
use Rattle.replies.specs.declared.Refusal.{Refusal}
use Rattle.replies.specs.Unique.{Unique}
use Rattle.replies.proofs.AnswerLaws.{answers_only}
use Rattle.color.specs.declared.CandidateColor.{CandidateColor}
use Rattle.color.specs.declared.NormalizedColor.{NormalizedColor}
use Rattle.lookup.specs.declared.Bracket.{Bracket}
use Rattle.records.specs.declared.Taken.{Taken}
use Rattle.records.specs.Answers.{NearestRecord, NearestTwoRecords, RecordsBracket}

module _ (list : List CandidateColor) (color : NormalizedColor) where
  pub nearest_unique : Unique (λ (r : Result Taken Refusal). NearestRecord list color r)
  nearest_unique = answers_only _ _ _

  pub nearest_two_unique : (width : ℕ) → Unique (λ (r : Result (Taken × Option Taken) Refusal). NearestTwoRecords list color width r)
  nearest_two_unique width = answers_only _ _ _

  pub ordered_bracket_unique : (width : ℕ) → Unique (λ (r : Result Bracket Refusal). RecordsBracket list color width r)
  ordered_bracket_unique width = answers_only _ _ _
