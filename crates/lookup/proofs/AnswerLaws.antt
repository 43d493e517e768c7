-- The answers of the flat calls and of `pick`: what has the promise, from the number found and what the case holds; an answer that holds a result is
-- that of an accepted list; its number is the lowest that applies, of `pick` the first; the position answered is the first of the least distances (`flat_least`), and the
-- two answered are what document 01 says of them (`flat_second`), which no other two are (`flat_second_only`). Assumes nothing.
use mathlib.Core.Path.{◌≡◌, refl, sym, subst}
use mathlib.Core.List.{List}
use Prim.Native.Nat.{ℕ, ◌+◌, ◌*◌, ◌/◌, ◌<◌}
use lib.Dec.{T}
use lib.ListN.{length, get_or}
use lib.Ieee.{Float, lt}
use Rattle.lists.specs.Least.{Least}
use Rattle.std.specs.Prelude.{Result, Ok}
use Rattle.replies.specs.Replies.{Reply, first_reply, FirstReply, Lowest}
use Rattle.replies.specs.Refusals.{number_of, Answered}
use Rattle.replies.specs.declared.Refusal.{Refusal}
use Rattle.replies.proofs.AnswerLaws.{answers_first, answers_lowest}
use Rattle.color.specs.declared.NormalizedColor.{NormalizedColor}
use Rattle.color.specs.declared.Oklab.{Oklab}
use Rattle.color.specs.Color.{rgba_at}
use Rattle.color.specs.Oklab.{all_in_range, oklab_at}
use Rattle.color.proofs.Distances.{range_all_in}
use Rattle.conversion.specs.Oklab.{to_oklab}
use Rattle.conversion.proofs.OklabLaws.{ranged}
use Rattle.mixing.specs.Lerp.{Bytes}
use Rattle.patterns.specs.Thresholds.{threshold_at, threshold_replies}
use Rattle.shortlist.specs.Candidates.{flat}
use Rattle.shortlist.specs.Nearest.{distances, nearest_of}
use Rattle.shortlist.proofs.NearestLaws.{nearest_least}
use Rattle.lookup.specs.Second.{nearest_two_of, NearestTwo}
use Rattle.lookup.specs.Bracket.{bracket_of, choice_at}
use Rattle.lookup.specs.Lists.{list_replies, list_number}
use Rattle.lookup.specs.Answers.{FlatNearest, FlatTwo, FlatBracket, PickedAt}
use Rattle.lookup.specs.declared.Two.{Two}
use Rattle.lookup.specs.declared.Bracket.{Bracket}
use Rattle.lookup.specs.declared.Choice.{Choice}
use Rattle.lookup.proofs.ListLaws.{accepted}
use Rattle.lookup.proofs.TwoLaws.{nearest_two_is, nearest_two_only}

-- a result that is answered is the promise's, and no reply applies
given : {A : Type 0} {replies : List Reply} {value x : A} → Answered replies value (Ok x) → (first_reply replies ≡ 0) × (x ≡ value)
given a = (sym a.number, let s = a.answer in cc)

-- what a colour is converted to is from -2 to 2
pub in_range_lem : (color : NormalizedColor) (o : Oklab) → o ≡ to_oklab color → color.0.r < 256 → color.0.g < 256 → color.0.b < 256 → T (all_in_range o)
in_range_lem color o e R G B = subst (λ (p : Oklab). T (all_in_range p)) (sym e) (range_all_in (to_oklab color) (ranged color R G B))

-- ---- the lookups over flat lists
module _ (reduced normalized : List ℕ) (oklab : List Float) where
  module _ (color : NormalizedColor) where
    pub nearest_lowest : {r : Result ℕ Refusal} → FlatNearest reduced normalized oklab color r → Lowest (list_replies reduced normalized oklab) (number_of r)
    nearest_lowest a = answers_lowest _ _ _ tt a

    -- a position is answered of an accepted list
    pub nearest_given : {x : Result ℕ Refusal} {k : ℕ} → FlatNearest reduced normalized oklab color x → x ≡ Ok k
        → (list_number reduced normalized oklab ≡ 0) × (k ≡ nearest_of (flat reduced normalized oklab) (to_oklab color))
    unfolding list_number
    nearest_given a e = given (subst (λ (r : Result ℕ Refusal). FlatNearest reduced normalized oklab color r) e a)

    -- no entry is nearer than the one answered, and every earlier entry is farther
    pub flat_least : {k : ℕ} → FlatNearest reduced normalized oklab color (Ok k) → Bytes color
        → Least lt (distances (to_oklab color) (oklab_at oklab)) (length reduced / 4) k
    flat_least {k} a C =
        let g = nearest_given a refl in
        let A = accepted reduced normalized oklab g.0 in
        subst (Least lt (distances (to_oklab color) (oklab_at oklab)) (length reduced / 4)) (sym g.1)
        (nearest_least (flat reduced normalized oklab) (to_oklab color) A.positive A.ranged.range
        (in_range_lem color (to_oklab color) refl C.r C.g C.b))

    module _ (width : ℕ) where
      pub two_lowest : {r : Result Two Refusal} → FlatTwo reduced normalized oklab color width r → Lowest (list_replies reduced normalized oklab) (number_of r)
      two_lowest a = answers_lowest _ _ _ tt a

      pub bracket_lowest : {r : Result Bracket Refusal} → FlatBracket reduced normalized oklab color width r
          → Lowest (list_replies reduced normalized oklab) (number_of r)
      bracket_lowest a = answers_lowest _ _ _ tt a

      -- two positions are answered of an accepted list
      pub two_given : {x : Result Two Refusal} {t : Two} → FlatTwo reduced normalized oklab color width x → x ≡ Ok t
          → (list_number reduced normalized oklab ≡ 0) × (t ≡ nearest_two_of (flat reduced normalized oklab) width (to_oklab color) color)
      unfolding list_number
      two_given a e = given (subst (λ (r : Result Two Refusal). FlatTwo reduced normalized oklab color width r) e a)

      -- and a bracket
      pub bracket_given : {x : Result Bracket Refusal} {b : Bracket} → FlatBracket reduced normalized oklab color width x → x ≡ Ok b
          → (list_number reduced normalized oklab ≡ 0) × (b ≡ bracket_of (flat reduced normalized oklab) width (to_oklab color) color)
      unfolding list_number
      bracket_given a e = given (subst (λ (r : Result Bracket Refusal). FlatBracket reduced normalized oklab color width r) e a)

      -- the two that are answered are what document 01 says of them: the nearest, and of its shortlist the one that mixes best
      pub flat_second : {t : Two} → FlatTwo reduced normalized oklab color width (Ok t) → Bytes color → ((i : ℕ) → get_or normalized i 0 < 256)
          → NearestTwo (flat reduced normalized oklab) width (to_oklab color) color t
      unfolding rgba_at
      flat_second {t} a C bytes =
          let g = two_given a refl in
          let A = accepted reduced normalized oklab g.0 in
          subst (NearestTwo (flat reduced normalized oklab) width (to_oklab color) color) (sym g.1)
          (nearest_two_is (flat reduced normalized oklab) width (to_oklab color) color A.positive A.ranged.range
          (in_range_lem color (to_oklab color) refl C.r C.g C.b) (λ k h. record { r = bytes (4 * k); g = bytes (4 * k + 1); b = bytes (4 * k + 2) }) C)

      -- and no other two are
      pub flat_second_only : list_number reduced normalized oklab ≡ 0 → (t u : Two) → NearestTwo (flat reduced normalized oklab) width (to_oklab color) color t
          → NearestTwo (flat reduced normalized oklab) width (to_oklab color) color u → t ≡ u
      flat_second_only e =
          let A = accepted reduced normalized oklab e in
          nearest_two_only (flat reduced normalized oklab) width (to_oklab color) color A.positive A.ranged.range

-- ---- pick
-- a choice is what some threshold picks
pub pick_given : (b : Bracket) (kind x y : ℕ) {r : Choice} → PickedAt b kind x y (Ok r) → r ≡ choice_at b (threshold_at kind x y)
pick_given b kind x y a = (given a).1

pub pick_first : (b : Bracket) (kind x y : ℕ) {r : Result Choice Refusal} → PickedAt b kind x y r → FirstReply (threshold_replies kind) (number_of r)
pick_first b kind x y a = answers_first _ _ _ tt a
