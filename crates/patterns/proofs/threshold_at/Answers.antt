-- `patterns::threshold_at` meets its contract: an ordered kind is not refused, and its threshold is the answer's. Assumes nothing.
use Rattle.replies.proofs.AnswerLaws.{answered}
use Rattle.patterns.proofs.Thresholds.{ordered_answer}
use Rattle.patterns.proofs.threshold_at.Goals as goal

pub unwrap-requires : goal.unwrap-requires
unwrap-requires c = rw (answered _ _ _ c.ordered_threshold.ensures, ordered_answer _ _ _ c.requires)
