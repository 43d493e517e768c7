-- What the flat calls and `pick` answer: the promise of each call, which its contract and its theorem of one result share (proofs/Unique). The numbers of
-- the refusals, and the form of an answer that is a result or a refusal, are in crate `replies`. Definitions only.
-- Written from document 01, "Bounds and replies": "The lowest number that applies is given", "A refusal returns no colour."; "Which places take which form":
-- "Where an answer is an enum, a definition tells you this paper's number and values for each of its cases."; and document 02, Ask 9, for `pick`'s 15.
use Rattle.std.specs.Prelude.{ℕ, List, Float, Result}
use Rattle.replies.specs.declared.Refusal.{Refusal}
use Rattle.replies.specs.Refusals.{Answered}
use Rattle.color.specs.declared.NormalizedColor.{NormalizedColor}
use Rattle.conversion.specs.Oklab.{to_oklab}
use Rattle.patterns.specs.Thresholds.{threshold_at, threshold_replies}
use Rattle.shortlist.specs.Candidates.{flat}
use Rattle.shortlist.specs.Nearest.{nearest_of}
use Rattle.lookup.specs.Second.{nearest_two_of}
use Rattle.lookup.specs.Bracket.{bracket_of, choice_at}
use Rattle.lookup.specs.Lists.{list_replies}
use Rattle.lookup.specs.declared.Two.{Two}
use Rattle.lookup.specs.declared.Bracket.{Bracket}
use Rattle.lookup.specs.declared.Choice.{Choice}

-- ---- the promises: `flat_nearest`, `flat_nearest_two`, `flat_ordered_bracket`, `pick`. The numbers of the lookups, and when each applies, are
-- `list_replies`; `pick` has those of `ordered_threshold`

-- with 0 the position of the nearest entry
abbrev pub FlatNearest : (reduced normalized : List ℕ) → List Float → NormalizedColor → Result ℕ Refusal → Type 0
FlatNearest reduced normalized oklab color = Answered (list_replies reduced normalized oklab) (nearest_of (flat reduced normalized oklab) (to_oklab color))

-- with 0 the positions of the nearest two
abbrev pub FlatTwo : (reduced normalized : List ℕ) → List Float → NormalizedColor → (width : ℕ) → Result Two Refusal → Type 0
FlatTwo reduced normalized oklab color width =
    Answered (list_replies reduced normalized oklab) (nearest_two_of (flat reduced normalized oklab) width (to_oklab color) color)

-- with 0 the bracket, with both positions
abbrev pub FlatBracket : (reduced normalized : List ℕ) → List Float → NormalizedColor → (width : ℕ) → Result Bracket Refusal → Type 0
FlatBracket reduced normalized oklab color width =
    Answered (list_replies reduced normalized oklab) (bracket_of (flat reduced normalized oklab) width (to_oklab color) color)

-- with 0 the colour that the threshold of the place picks, and its position
abbrev pub PickedAt : Bracket → (kind x y : ℕ) → Result Choice Refusal → Type 0
PickedAt b kind x y = Answered (threshold_replies kind) (choice_at b (threshold_at kind x y))
