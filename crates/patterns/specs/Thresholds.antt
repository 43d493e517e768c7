-- The threshold of a place, and what `ordered_threshold` promises. Definitions only.
-- Written from document 01, "Choosing colours": "Threshold = (entry + 0.5) / n [..]; row y, column x, both reduced to the matrix size";
-- each operation is rounded to an f32, in the Rust's order. Refusals 1 and 9 are those of "Bounds and replies"; 15 is document 02's, Ask 9, "directly
-- after 1".
use Rattle.std.specs.Prelude.{ℕ, ◌%◌, not, List, [], ◌∷◌, pos, length, get_or, Float, Result}
use Rattle.std.specs.Float.{nan, binary32}
use Rattle.std.specs.Float.Ieee.{add, div, of_int}
use Rattle.replies.specs.Replies.{Reply, ◌if◌, first_reply}
use Rattle.replies.specs.Refusals.{answer, Answered}
use Rattle.replies.specs.declared.Refusal.{Refusal}
use Rattle.floats.specs.Over.{over, wholef}
use Rattle.patterns.specs.Kinds.{Way, plain, ordered, diffused, retired, none, way_of, is_kind, is_retired, is_ordered}

-- (entry + 0.5) / n
unfoldable pub threshold_from : ℕ → Float → Float
threshold_from entry n = div binary32 (add binary32 (of_int binary32 (pos entry)) (over 2 (pos 1))) n

-- row y, column x, both reduced to a size
abbrev pub entry_in : ℕ → List (List ℕ) → ℕ → ℕ → ℕ
entry_in size m x y = get_or (get_or m (y % size) []) (x % size) 0

-- and to the matrix size
abbrev pub entry : List (List ℕ) → ℕ → ℕ → ℕ
entry m x y = entry_in (length m) m x y

-- the threshold in column x and row y; without a matrix there is none
abbrev pub threshold_in : Way → ℕ → ℕ → Float
threshold_in plain x y = nan
threshold_in (ordered m n) x y = threshold_from (entry m x y) (wholef (pos n))
threshold_in (diffused k h) x y = nan
threshold_in retired x y = nan
threshold_in none x y = nan

-- that of the kind with a number
unfoldable pub threshold_at : ℕ → ℕ → ℕ → Float
threshold_at kind x y = threshold_in (way_of kind) x y

-- ---- what `ordered_threshold` answers
-- the numbers, and when each applies: 1 where there is no such kind, 15 where it is retired, 9 where it has no matrix (which these are:
-- proofs/Thresholds)
abbrev pub threshold_replies : (kind : ℕ) → List Reply
threshold_replies kind = (1 if not (is_kind kind)) ∷ (15 if is_retired kind) ∷ (9 if not (is_ordered kind)) ∷ []

-- what `ordered_threshold` promises of its answer r
abbrev pub OrderedThresholdAnswered : (kind x y : ℕ) → Result Float Refusal → Type 0
OrderedThresholdAnswered kind x y r = Answered (threshold_replies kind) (threshold_at kind x y) r

-- the answer that has the promise (`answered` in replies/proofs/AnswerLaws)
abbrev pub threshold_of : (kind x y : ℕ) → Result Float Refusal
threshold_of kind x y = answer (threshold_at kind x y) (first_reply (threshold_replies kind))
