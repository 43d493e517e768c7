-- What the lookups and `pick` answer through the C interface and leave behind their pointers and in their buffers: the answer's on acceptance, and
-- otherwise what was there; the number is 0, or the refusal's. The result is the
-- definition that has the call's name, and that it is so is the call's promise. Definitions only.
-- Written from document 01, "Bounds and replies": "The lowest number that applies is given", "A refusal returns no colour", "all unchanged"; and document
-- 02, Ask 4: "the bracket should answer with the taken records' positions besides the colours"; Ask 9: 15 "directly after 1".
use Rattle.std.specs.Prelude.{◌≡◌, ℕ, List, [], ◌∷◌, Bool, not, ◌&&◌, eqb, length, Float, Result, Ok, Err, unwrap_or}
use Rattle.replies.specs.Replies.{Reply, ◌if◌, first_reply}
use Rattle.replies.specs.declared.Refusal.{Refusal}
use Rattle.replies.specs.Refusals.{number, answer}
use Rattle.color.specs.declared.ReducedColor.{ReducedColor}
use Rattle.color.specs.Color.{reduced_at, bytes_of}
use Rattle.patterns.specs.Kinds.{is_kind, is_retired, is_ordered}
use Rattle.lookup.specs.Lists.{list_replies}
use Rattle.conversion.specs.Oklab.{to_oklab}
use Rattle.shortlist.specs.Candidates.{flat}
use Rattle.shortlist.specs.Nearest.{nearest_of}
use Rattle.lookup.specs.Second.{nearest_two_of}
use Rattle.lookup.specs.Bracket.{bracket_of, choice_at}
use Rattle.patterns.specs.Thresholds.{threshold_at}
use Rattle.lookup.specs.declared.Two.{Two}
use Rattle.lookup.specs.declared.Bracket.{Bracket}
use Rattle.lookup.specs.declared.Choice.{Choice}
use Rattle.exports.specs.Answers.{opaque_rgb, left}

-- ---- `badge_nearest`: the number, and the position, of a colour of three bytes; alpha plays no part
abbrev pub badge_nearest : (reduced normalized : List ℕ) → List Float → (r g b was : ℕ) → ℕ × ℕ
badge_nearest reduced normalized oklab r g b was =
    left was (answer (nearest_of (flat reduced normalized oklab) (to_oklab (opaque_rgb r g b))) (first_reply (list_replies reduced normalized oklab)))

abbrev pub PromisedNearest : (reduced normalized : List ℕ) → List Float → (r g b was : ℕ) → ℕ × ℕ → Type 0
PromisedNearest reduced normalized oklab r g b was left = left ≡ badge_nearest reduced normalized oklab r g b was

-- ---- `badge_nearest_two`: the number, and the positions of the first and of the second
-- the position of the second of two; that of the first where there is no second
abbrev pub second_position : Two → ℕ
second_position t = unwrap_or t.second t.first

abbrev pub two_left : (first second : ℕ) → Result Two Refusal → ℕ × ℕ × ℕ
two_left first second (Ok t) = (0, t.first, second_position t)
two_left first second (Err e) = (number e, first, second)

abbrev pub badge_nearest_two : (reduced normalized : List ℕ) → List Float → (r g b width first second : ℕ) → ℕ × ℕ × ℕ
badge_nearest_two reduced normalized oklab r g b width first second =
    let color = opaque_rgb r g b in
    two_left first second
    (answer (nearest_two_of (flat reduced normalized oklab) width (to_oklab color) color) (first_reply (list_replies reduced normalized oklab)))

abbrev pub PromisedNearestTwo : (reduced normalized : List ℕ) → List Float → (r g b width first second : ℕ) → ℕ × ℕ × ℕ → Type 0
PromisedNearestTwo reduced normalized oklab r g b width first second left = left ≡ badge_nearest_two reduced normalized oklab r g b width first second

-- ---- `badge_ordered_bracket`: the number, the bytes of dark and of light, the share of light, and the positions of dark and of light
-- a colour is four bytes
abbrev pub is_four : List ℕ → Bool
is_four bytes = eqb (length bytes) 4

-- the numbers, and when each applies: a wrong length of dark or light is refused as those of the lists are
abbrev pub badge_bracket_replies : (reduced normalized : List ℕ) → List Float → (dark light : List ℕ) → List Reply
badge_bracket_replies reduced normalized oklab dark light = (3 if not (is_four dark && is_four light)) ∷ list_replies reduced normalized oklab

-- what is answered for a colour of three bytes and rooms for dark and light
unfoldable pub bracket_rgb : (reduced normalized : List ℕ) → List Float → (r g b width : ℕ) → (dark light : List ℕ) → Result Bracket Refusal
bracket_rgb reduced normalized oklab r g b width dark light =
    let color = opaque_rgb r g b in
    answer (bracket_of (flat reduced normalized oklab) width (to_oklab color) color) (first_reply (badge_bracket_replies reduced normalized oklab dark light))

-- what is there afterwards, where dark, light, ratio and the two positions were lent
abbrev pub BracketLeft : Type 0
BracketLeft = ℕ × List ℕ × List ℕ × Float × ℕ × ℕ

abbrev pub bracket_left : (dark light : List ℕ) → Float → (dark_at light_at : ℕ) → Result Bracket Refusal → BracketLeft
bracket_left dark light ratio dark_at light_at (Ok b) = (0, bytes_of b.dark.0, bytes_of b.light.0, b.ratio, b.dark_position, b.light_position)
bracket_left dark light ratio dark_at light_at (Err e) = (number e, dark, light, ratio, dark_at, light_at)

abbrev pub badge_ordered_bracket : (reduced normalized : List ℕ) → List Float → (r g b width : ℕ) → (dark light : List ℕ) → Float → (dark_at light_at : ℕ)
    → BracketLeft
badge_ordered_bracket reduced normalized oklab r g b width dark light ratio dark_at light_at =
    bracket_left dark light ratio dark_at light_at (bracket_rgb reduced normalized oklab r g b width dark light)

abbrev pub PromisedOrderedBracket : (reduced normalized : List ℕ) → List Float → (r g b width : ℕ) → (dark light : List ℕ) → Float → (dark_at light_at : ℕ)
    → BracketLeft → Type 0
PromisedOrderedBracket reduced normalized oklab r g b width dark light ratio dark_at light_at left =
    left ≡ badge_ordered_bracket reduced normalized oklab r g b width dark light ratio dark_at light_at

-- ---- `badge_pick`: the number, and the bytes of the colour picked
-- the numbers, and when each applies: those of `pick`, and after 15 a 3 for a wrong length of dark, light or chosen
abbrev pub badge_pick_replies : (dark light : List ℕ) → ℕ → (chosen : List ℕ) → List Reply
badge_pick_replies dark light kind chosen =
    (1 if not (is_kind kind))
    ∷ (15 if is_retired kind)
    ∷ (3 if not (is_four dark && (is_four light && is_four chosen)))
    ∷ (9 if not (is_ordered kind))
    ∷ []

-- two colours as a bracket: of positions nothing is asked, and none is answered
abbrev pub bracket_without : ReducedColor → ReducedColor → Float → Bracket
bracket_without dark light ratio = record { dark = dark; light = light; ratio = ratio; dark_position = 0; light_position = 0 }

-- what is answered for dark and light as bytes, and a room for the chosen colour
unfoldable pub pick_rooms : (dark light : List ℕ) → Float → (kind x y : ℕ) → (chosen : List ℕ) → Result Choice Refusal
pick_rooms dark light ratio kind x y chosen =
    answer (choice_at (bracket_without (reduced_at dark 0) (reduced_at light 0) ratio) (threshold_at kind x y))
    (first_reply (badge_pick_replies dark light kind chosen))

abbrev pub picked_left : List ℕ → Result Choice Refusal → ℕ × List ℕ
picked_left was (Ok c) = (0, bytes_of c.color.0)
picked_left was (Err e) = (number e, was)

abbrev pub badge_pick : (dark light : List ℕ) → Float → (kind x y : ℕ) → List ℕ → ℕ × List ℕ
badge_pick dark light ratio kind x y chosen = picked_left chosen (pick_rooms dark light ratio kind x y chosen)

abbrev pub PromisedPick : (dark light : List ℕ) → Float → (kind x y : ℕ) → List ℕ → ℕ × List ℕ → Type 0
PromisedPick dark light ratio kind x y chosen left = left ≡ badge_pick dark light ratio kind x y chosen
