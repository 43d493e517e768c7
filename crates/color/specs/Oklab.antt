-- Oklab colours and their weighted squared distance, in the Rust's order of operations, each rounded to an f32. Definitions only.
-- Written from `oklab_sqdist` of src/color.rs, and from document 01: "weight 2.15", and refusal 6.
use Rattle.std.specs.Prelude.{ℕ, ◌+◌, ◌*◌, Bool, ◌&&◌, not, false, List, [], ◌∷◌, pos, get_or, Float, Result}
use Rattle.std.specs.Float.{nan, fin, binary32}
use Rattle.std.specs.Float.Ieee.{add, sub, mul, neg, le}
use Rattle.replies.specs.Replies.{Reply, ◌if◌, first_reply}
use Rattle.replies.specs.Refusals.{answer, Answered}
use Rattle.replies.specs.declared.Refusal.{Refusal}
use Rattle.floats.specs.Over.{over}
use Rattle.color.specs.declared.Oklab.{Oklab}

-- 2.0
abbrev pub two : Float
two = fin false 1 (pos 1)

-- "weight 2.15": the f32 nearest to 215 / 100
abbrev pub chroma : Float
chroma = over 100 (pos 215)

-- from -2 to 2; a NaN is not
unfoldable pub in_range : Float → Bool
in_range x = le (neg two) x && le x two

unfoldable pub all_in_range : Oklab → Bool
all_in_range c = in_range c.l && (in_range c.a && in_range c.b)

abbrev pub square : Float → Float
square x = mul binary32 x x

-- lightness squared, and the weight times a squared plus b squared
unfoldable pub sqdist_of : Oklab → Oklab → Float
sqdist_of a b =
    add binary32 (square (sub binary32 a.l b.l))
    (mul binary32 chroma (add binary32 (square (sub binary32 a.a b.a)) (square (sub binary32 a.b b.b))))

-- the numbers of `oklab_sqdist`, and when each applies: 6 where a component is not from -2 to 2
abbrev pub distance_replies : (a b : Oklab) → List Reply
distance_replies a b = (6 if not (all_in_range a && all_in_range b)) ∷ []

-- what it answers with a number: the distance with 0, and else the refusal with the number
abbrev pub distance_answer : (a b : Oklab) → ℕ → Result Float Refusal
distance_answer a b = answer (sqdist_of a b)

-- what `oklab_sqdist` promises of its answer r
abbrev pub OklabSqdistAnswered : (a b : Oklab) → Result Float Refusal → Type 0
OklabSqdistAnswered a b r = Answered (distance_replies a b) (sqdist_of a b) r

-- the answer that has the promise (`answered` in replies/proofs/AnswerLaws)
abbrev pub distance_of : (a b : Oklab) → Result Float Refusal
distance_of a b = distance_answer a b (first_reply (distance_replies a b))

-- colour i of a list of floats, three a colour
unfoldable pub oklab_at : List Float → ℕ → Oklab
oklab_at list i = record { l = get_or list (3 * i) nan; a = get_or list (3 * i + 1) nan; b = get_or list (3 * i + 2) nan }

-- a colour's three floats
abbrev pub floats_of : Oklab → List Float
floats_of c = c.l ∷ c.a ∷ c.b ∷ []
