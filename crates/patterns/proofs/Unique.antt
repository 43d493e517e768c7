-- The public call of `patterns` leaves one answer. Assumes nothing.
use Prim.Native.Nat.{ℕ}
use Rattle.replies.specs.Unique.{Unique}
use Rattle.replies.proofs.AnswerLaws.{answers_only}
use Rattle.std.specs.Prelude.{Result, Float}
use Rattle.replies.specs.declared.Refusal.{Refusal}
use Rattle.replies.specs.Refusals.{number_of, answer}
use Rattle.patterns.specs.Thresholds.{threshold_at, threshold_replies, OrderedThresholdAnswered}

pub ordered_threshold_unique : (kind x y : ℕ) → Unique (λ (r : Result Float Refusal). OrderedThresholdAnswered kind x y r)
ordered_threshold_unique kind x y = answers_only number_of (threshold_replies kind) (answer (threshold_at kind x y))
