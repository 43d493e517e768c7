-- What the lookups over records promise: what is answered, and one promise a call. The numbers of the refusals, and the form of an answer that is a result
-- or a refusal, are in crate `replies`. Definitions only.
-- Written from document 01, "Bounds and replies": "The lookups take the caller's list of candidate records and answer with a copy of the chosen one",
-- "A refusal returns no colour."; "Choosing colours": "With one candidate there is no second."; and document 02, Ask 4: "`nearest`, `nearest_two` and the
-- bracket should answer with the taken records' positions besides the colours."
use Rattle.std.specs.Prelude.{ℕ, ◌<◌, ◌≡◌, List, length, Option, Some, None, Result, Ok, Err}
use Rattle.replies.specs.declared.Refusal.{Refusal}
use Rattle.replies.specs.Refusals.{Answered}
use Rattle.color.specs.declared.CandidateColor.{CandidateColor}
use Rattle.color.specs.declared.NormalizedColor.{NormalizedColor}
use Rattle.conversion.specs.Oklab.{to_oklab}
use Rattle.shortlist.specs.Nearest.{nearest_of}
use Rattle.lookup.specs.declared.Two.{Two}
use Rattle.lookup.specs.declared.Bracket.{Bracket}
use Rattle.lookup.specs.Second.{nearest_two_of}
use Rattle.lookup.specs.Bracket.{bracket_of}
use Rattle.records.specs.declared.Taken.{Taken}
use Rattle.records.specs.Lists.{record_at, candidates_of, record_replies}

-- ---- what is answered with 0

-- the record at a position, as it is taken
abbrev pub taken_at : List CandidateColor → ℕ → Taken
taken_at list k = record { copy = record_at list k; position = k }

-- the nearest record
abbrev pub nearest_record : List CandidateColor → NormalizedColor → Taken
nearest_record list color = taken_at list (nearest_of (candidates_of list) (to_oklab color))

-- the records at the positions of two
abbrev pub records_at : List CandidateColor → ℕ → Option ℕ → Taken × Option Taken
records_at list a None = (taken_at list a, None)
records_at list a (Some b) = (taken_at list a, Some (taken_at list b))

-- the nearest two
abbrev pub nearest_two_records : List CandidateColor → NormalizedColor → ℕ → Taken × Option Taken
nearest_two_records list color width =
    let t = nearest_two_of (candidates_of list) width (to_oklab color) color in
    records_at list t.first t.second

-- the bracket, with both positions
abbrev pub records_bracket : List CandidateColor → NormalizedColor → ℕ → Bracket
records_bracket list color width = bracket_of (candidates_of list) width (to_oklab color) color

-- ---- the promises
abbrev pub NearestRecord : List CandidateColor → NormalizedColor → Result Taken Refusal → Type 0
NearestRecord list color = Answered (record_replies list) (nearest_record list color)

abbrev pub NearestTwoRecords : List CandidateColor → NormalizedColor → ℕ → Result (Taken × Option Taken) Refusal → Type 0
NearestTwoRecords list color width = Answered (record_replies list) (nearest_two_records list color width)

abbrev pub RecordsBracket : List CandidateColor → NormalizedColor → ℕ → Result Bracket Refusal → Type 0
RecordsBracket list color width = Answered (record_replies list) (records_bracket list color width)

-- ---- the flat calls' answers as answers over records: the records at the positions (proofs/AgreeLaws)
abbrev pub found_in : List CandidateColor → Result ℕ Refusal → Result Taken Refusal
found_in list (Ok k) = Ok (taken_at list k)
found_in list (Err e) = Err e

abbrev pub found_two_in : List CandidateColor → Result Two Refusal → Result (Taken × Option Taken) Refusal
found_two_in list (Ok t) = Ok (records_at list t.first t.second)
found_two_in list (Err e) = Err e

-- ---- what is taken is a record of the list, the one at its position (proofs/TakenLaws)
pub record TakenFrom (list : List CandidateColor) (t : Taken) : Type 0 where
  pub inside : t.position < length list
  pub copy : t.copy ≡ record_at list t.position

-- each that is answered
abbrev pub EachTaken : List CandidateColor → Result (Taken × Option Taken) Refusal → Type 0
EachTaken list (Ok (a, Some b)) = TakenFrom list a × TakenFrom list b
EachTaken list (Ok (a, None)) = TakenFrom list a
EachTaken list (Err e) = Unit {0}

-- the positions that are answered; a refusal, which has none, is not asked about
abbrev pub positions_of : Result (Taken × Option Taken) Refusal → Two
positions_of (Ok (a, Some b)) = record { first = a.position; second = Some b.position }
positions_of (Ok (a, None)) = record { first = a.position; second = None }
positions_of (Err e) = record { first = 0; second = None }
