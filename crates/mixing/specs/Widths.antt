-- The shifts of the modes, and the width of a bracket. Definitions only.
-- Written from document 01, "Choosing colours": "`bracket_width`: max·shift/16, rounded with halves up, clamped to 1..16", and refusal 1;
-- and from document 02, Ask 5: "`bracket_width` alone: shift not 3 to 6".
use Rattle.std.specs.Prelude.{ℕ, ◌+◌, ◌*◌, ◌/◌, min, max, Bool, not, ◌||◌, List, [], ◌∷◌, eqb, Result}
use Rattle.replies.specs.Replies.{Reply, ◌if◌, first_reply}
use Rattle.replies.specs.Refusals.{answer, Answered}
use Rattle.replies.specs.declared.Refusal.{Refusal}

-- the shifts of the modes: 3 to 6
unfoldable pub is_shift : ℕ → Bool
is_shift shift = eqb shift 3 || (eqb shift 4 || (eqb shift 5 || eqb shift 6))

-- a width, brought to 1..16
abbrev pub clamp_width : ℕ → ℕ
clamp_width w = min (max w 1) 16

-- n / 16 to the nearest whole number, halves up (proofs/Widths)
abbrev pub sixteenth : ℕ → ℕ
sixteenth n = (n + 8) / 16

-- the width for a shift and for m colours at most, document 01's max
unfoldable pub width_of : ℕ → ℕ → ℕ
width_of shift m = clamp_width (sixteenth (m * shift))

-- ---- what `bracket_width` answers
-- the numbers, and when each applies: 1 for another shift
abbrev pub width_replies : (shift : ℕ) → List Reply
width_replies shift = (1 if not (is_shift shift)) ∷ []

-- what is answered with a number: the width with 0, and else the refusal with the number
abbrev pub width_answer : (shift m : ℕ) → ℕ → Result ℕ Refusal
width_answer shift m = answer (width_of shift m)

-- what `bracket_width` promises of its answer r
abbrev pub BracketWidthAnswered : (shift m : ℕ) → Result ℕ Refusal → Type 0
BracketWidthAnswered shift m r = Answered (width_replies shift) (width_of shift m) r

-- the answer that has the promise (`answered` in replies/proofs/AnswerLaws)
abbrev pub bracket_width_of : (shift m : ℕ) → Result ℕ Refusal
bracket_width_of shift m = width_answer shift m (first_reply (width_replies shift))
