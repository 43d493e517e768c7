-- Lists of candidate records: as candidates, taken apart into flat lists, and what is refused of them. Definitions only.
-- Written from document 01: "The lookups take the caller's list of candidate records", "Lookup lists 1..65,536", refusals 4 and 6.
use Rattle.std.specs.Prelude.{ℕ, zero, suc, List, [], ◌∷◌, Bool, true, not, ◌&&◌, length, get_or, Float}
use Rattle.std.specs.Float.{nan}
use Rattle.lists.specs.Gather.{gather}
use Rattle.replies.specs.Replies.{◌if◌, Reply, first_reply}
use Rattle.color.specs.declared.CandidateColor.{CandidateColor}
use Rattle.color.specs.declared.Oklab.{Oklab}
use Rattle.color.specs.Color.{transparent_reduced, transparent_normalized, bytes_of}
use Rattle.color.specs.Oklab.{all_in_range, floats_of}
use Rattle.shortlist.specs.Candidates.{Candidates}
use Rattle.shortlist.specs.Nearest.{distances}
use Rattle.lookup.specs.Lists.{count_fits}

-- what stands at no position
abbrev pub no_record : CandidateColor
no_record = record { reduced = transparent_reduced; normalized = transparent_normalized; oklab = record { l = nan; a = nan; b = nan } }

abbrev pub record_at : List CandidateColor → ℕ → CandidateColor
record_at list k = get_or list k no_record

-- the records as candidates: what the definitions of the lookups choose from
abbrev pub candidates_of : List CandidateColor → Candidates
candidates_of list =
    record { count = length list; reduced = λ k. (record_at list k).reduced; normalized = λ k. (record_at list k).normalized; oklab = λ k. (record_at list k).oklab }

-- how far record k is from a colour
abbrev pub far_of : List CandidateColor → Oklab → ℕ → Float
far_of list o = distances o (candidates_of list).oklab

-- ---- taken apart
abbrev pub reduced_piece : List CandidateColor → ℕ → List ℕ
reduced_piece list k = bytes_of (record_at list k).reduced.0

abbrev pub normalized_piece : List CandidateColor → ℕ → List ℕ
normalized_piece list k = bytes_of (record_at list k).normalized.0

abbrev pub oklab_piece : List CandidateColor → ℕ → List Float
oklab_piece list k = floats_of (record_at list k).oklab

-- reduced bytes and normalised bytes four a record, Oklab floats three a record
abbrev pub reduced_bytes : List CandidateColor → List ℕ
reduced_bytes list = gather (length list) (reduced_piece list)

abbrev pub normalized_bytes : List CandidateColor → List ℕ
normalized_bytes list = gather (length list) (normalized_piece list)

abbrev pub oklab_floats : List CandidateColor → List Float
oklab_floats list = gather (length list) (oklab_piece list)

-- ---- what is refused

-- whether every component of the first k records is from -2 to 2
abbrev pub ranged_to : List CandidateColor → ℕ → Bool
ranged_to list zero = true
ranged_to list (suc k) = ranged_to list k && all_in_range (record_at list k).oklab

-- the numbers, by a list's length and whether it is in range, and when each applies
abbrev pub replies_by : ℕ → Bool → List Reply
replies_by n ranged = (4 if not (count_fits n)) ∷ (6 if not ranged) ∷ []

unfoldable pub number_by : ℕ → Bool → ℕ
number_by n ranged = first_reply (replies_by n ranged)

-- of a list; its number is 0 where it is accepted
abbrev pub record_replies : List CandidateColor → List Reply
record_replies list = replies_by (length list) (ranged_to list (length list))

abbrev pub records_number : List CandidateColor → ℕ
records_number list = number_by (length list) (ranged_to list (length list))
