-- What the three lookups over one list of records answer, side by side. Definitions only.
-- Written for the replay of recorded answers, from document 01, "Bounds and replies": "The lookups take the caller's list of candidate records and
-- answer with a copy of the chosen one".
use Rattle.std.specs.Prelude.{ℕ, List}
use Rattle.color.specs.declared.CandidateColor.{CandidateColor}
use Rattle.color.specs.declared.NormalizedColor.{NormalizedColor}
use Rattle.records.specs.Answers.{NearestRecord, NearestTwoRecords, RecordsBracket}
use Rattle.record_cases.specs.declared.Three.{Three}

-- each is what its lookup promises on the list
pub record Asked (list : List CandidateColor) (color : NormalizedColor) (width : ℕ) (r : Three) : Type 0 where
  pub near : NearestRecord list color r.near
  pub two : NearestTwoRecords list color width r.two
  pub bracket : RecordsBracket list color width r.bracket
