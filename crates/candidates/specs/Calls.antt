-- What `candidate_colors_in` answers, and what its rooms hold afterwards. Definitions only.
-- Written from document 01, "Bounds and replies": the rows 1, 2, 3 and 7 of its table, "Candidate places 0..65,536, four bytes each, with three f32
-- each beside them", "Buffers have exactly the length needed", "The lowest number that applies is given"; and from document 02, Ask 5: "Refusals: 1 for any other pairing", "3 covers
-- the new buffer".
use Rattle.std.specs.Prelude.{ℕ, ◌*◌, ◌/◌, ◌%◌, ◌≡◌, Bool, cond, not, ◌||◌, List, [], ◌∷◌, ◌++◌, ltb, eqb, Float, length, replicate, Result}
use Rattle.color.specs.declared.ReducedColor.{ReducedColor}
use Rattle.replies.specs.Replies.{Reply, ◌if◌, after}
use Rattle.replies.specs.Refusals.{number_of, answer, Answered}
use Rattle.replies.specs.declared.Refusal.{Refusal}
use Rattle.reducing.specs.declared.Reducing.{Reducing}
use Rattle.reducing.specs.Reduce.{is_pairing}
use Rattle.picture.specs.Bounds.{size_wrong, lent_wrong}
use Rattle.picture.specs.Pixels.{basis, reduced_by}
use Rattle.candidates.specs.Candidates.{candidates_of}
use Rattle.candidates.specs.Rooms.{places_with, oklab_with, too_many}
use Rattle.candidates.specs.declared.Lengths.{Lengths}

-- what the call is asked, with the rooms as they are lent
pub record Asked : Type 0 where
  pub shift : ℕ
  pub reducing : Reducing
  pub width : ℕ
  pub height : ℕ
  pub reduction : List ℕ
  pub scale : List ℕ
  pub pixels : List ℕ
  pub opaque : List ℕ
  pub places : List ℕ
  pub oklab : List Float

-- the picture's candidates
unfoldable pub candidates_in : Asked → List ReducedColor
candidates_in x = candidates_of (reduced_by x.reducing x.reduction (basis x.reducing x.pixels x.opaque)) (x.width * x.height)

abbrev pub lengths_of : Asked → Lengths
lengths_of x = record {
  reduction = length x.reduction;
  scale = length x.scale;
  pixels = length x.pixels;
  opaque = length x.opaque;
  places = length x.places;
  oklab = length x.oklab;
}

-- places that are no whole colours, or more than 65,536; or not three floats beside each
unfoldable pub rooms_wrong : ℕ → ℕ → Bool
rooms_wrong places oklab = not (eqb (places % 4) 0) || (ltb (4 * 65536) places || not (eqb oklab (3 * (places / 4))))

-- a table, the pixels or a room has another length than n pixels need
unfoldable pub lengths_wrong : Reducing → ℕ → Lengths → Bool
lengths_wrong by n lent = lent_wrong by lent.reduction lent.scale lent.pixels lent.opaque n || rooms_wrong lent.places lent.oklab

-- the refusals that need no look at a pixel, and all of them
abbrev pub checks : ℕ → Reducing → ℕ → ℕ → Lengths → List Reply
checks shift by width height lent = 1 if not (is_pairing by shift) ∷ 2 if size_wrong width height ∷ 3 if lengths_wrong by (width * height) lent ∷ []

abbrev pub replies : Asked → List Reply
replies x = checks x.shift x.reducing x.width x.height (lengths_of x) ++ 7 if too_many (candidates_in x) x.places ∷ []

-- what is answered with a number
abbrev pub answer_of : Asked → ℕ → Result ℕ Refusal
answer_of x = answer (length (candidates_in x))

-- the places after number n: the candidates; all 0 after 7; else as they were
abbrev pub places_after : Asked → ℕ → List ℕ
places_after x n = cond (eqb n 7) (replicate (length x.places) 0) (after n (places_with (candidates_in x) x.places) x.places)

-- and the floats beside them
abbrev pub oklab_after : Asked → ℕ → List Float
oklab_after x n = after n (oklab_with x.scale (candidates_in x) x.oklab) x.oklab

-- what `candidate_colors_in` promises: the answer, and both rooms after its number
pub record CandidateColors (x : Asked) (r : Result ℕ Refusal) (places : List ℕ) (oklab : List Float) : Type 0 where
  pub answer : Answered (replies x) (length (candidates_in x)) r
  pub bytes : places ≡ places_after x (number_of r)
  pub floats : oklab ≡ oklab_after x (number_of r)
