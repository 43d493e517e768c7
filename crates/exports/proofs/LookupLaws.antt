-- The lookups and `pick` through the C interface: positions are below 65,536, so that they fit a u32; what is refused for a length that is not 4, and
-- that the flat calls' answers hold where all are; and that the number of a bracket is the lowest that applies, of `pick` the first. Assumes nothing.
use mathlib.Core.Path.{◌≡◌, refl, sym, ◌∙◌, subst}
use mathlib.Core.List.{List}
use mathlib.Core.Bool.{Bool, true, false, not, ◌&&◌}
use Prim.Native.Nat.{ℕ, ◌/◌, ◌<◌}
use native.Mathlib.Omega.{arith}
use lib.ListN.{length}
use lib.Ieee.{Float}
use Rattle.std.specs.Prelude.{Option, Some, None, Result, Ok, Err, unwrap_or}
use Rattle.replies.specs.Replies.{first_reply, FirstReply, Lowest}
use Rattle.replies.specs.Refusals.{answer, number_of}
use Rattle.replies.specs.declared.Refusal.{Refusal}
use Rattle.replies.specs.declared.Refusal.TheVariants as refusal
use Rattle.replies.proofs.AnswerLaws.{answered}
use Rattle.replies.proofs.ReplyLaws.{reply_is}
use Rattle.replies.proofs.LowestLaws.{lowest_is}
use Rattle.color.specs.declared.NormalizedColor.{NormalizedColor}
use Rattle.color.specs.declared.ReducedColor.{ReducedColor}
use Rattle.color.specs.Color.{rgba, reduced_at}
use Rattle.color.specs.Oklab.{oklab_at}
use Rattle.conversion.specs.Oklab.{to_oklab}
use Rattle.patterns.specs.Kinds.{is_kind, is_retired}
use Rattle.patterns.specs.Thresholds.{threshold_at, threshold_replies}
use Rattle.shortlist.specs.Candidates.{Candidates, flat}
use Rattle.shortlist.specs.Nearest.{nearest_of}
use Rattle.shortlist.proofs.NearestLaws.{nearest_inside}
use Rattle.lookup.specs.Second.{nearest_two_of}
use Rattle.lookup.specs.Bracket.{bracket_of, choice_at}
use Rattle.lookup.specs.Lists.{list_replies}
use Rattle.lookup.specs.Answers.{FlatNearest, FlatTwo, FlatBracket, PickedAt}
use Rattle.lookup.specs.declared.Two.{Two}
use Rattle.lookup.specs.declared.Bracket.{Bracket}
use Rattle.lookup.specs.declared.Choice.{Choice}
use Rattle.lookup.proofs.ListLaws.{accepted}
use Rattle.lookup.proofs.TwoLaws.{first_entry, second_entry}
use Rattle.lookup.proofs.AnswerLaws.{nearest_given, two_given, bracket_given}
use Rattle.lookup.proofs.TakenLaws.{flat_ends}
use Rattle.exports.specs.Answers.{opaque_rgb}
use Rattle.exports.proofs.AnswerLaws.{of_rgb, first_named}
use Rattle.exports.specs.Lookups.{second_position, is_four, badge_bracket_replies, bracket_rgb, bracket_left, badge_ordered_bracket}
use Rattle.exports.specs.Lookups.{badge_pick_replies, bracket_without, pick_rooms, picked_left, badge_pick}

-- ---- positions: those of an answer x
module _ (reduced normalized : List ℕ) (oklab : List Float) (color : NormalizedColor) where
  pub position_small : {x : Result ℕ Refusal} {k : ℕ} → FlatNearest reduced normalized oklab color x → x ≡ Ok k → k < 65536
  position_small p q =
      let g = nearest_given reduced normalized oklab color p q in
      let A = accepted reduced normalized oklab g.0 in
      omega (arith, g.1, A.few, nearest_inside (oklab_at oklab) (length reduced / 4) (to_oklab color) A.positive)

  pub positions_small : (width : ℕ) {x : Result Two Refusal} {t : Two} → FlatTwo reduced normalized oklab color width x → x ≡ Ok t
      → (t.first < 65536) × (second_position t < 65536)
  positions_small width {t = t} p q =
      let g = two_given reduced normalized oklab color width p q in
      let A = accepted reduced normalized oklab g.0 in
      let cs = flat reduced normalized oklab in
      let i : t.first < length reduced / 4 = first_entry cs width (to_oklab color) color t g.1 A.positive in
      let j : second_position t < length reduced / 4 =
      either (length reduced / 4) t.first i t.second (second_entry cs width (to_oklab color) color t g.1 A.positive A.ranged.range) in
      (omega (arith, A.few), omega (arith, A.few))
    where
      either : (m first : ℕ) → first < m → (s : Option ℕ) → ((k : ℕ) → s ≡ Some k → k < m) → unwrap_or s first < m
      either m first i (Some k) h = h k refl
      either m first i None h = i

  pub ends_small : (width : ℕ) {x : Result Bracket Refusal} {b : Bracket} → FlatBracket reduced normalized oklab color width x → x ≡ Ok b
      → (b.dark_position < 65536) × (b.light_position < 65536)
  ends_small width {b = b} p q =
      let a = subst (FlatBracket reduced normalized oklab color width) q p in
      let A = accepted reduced normalized oklab (bracket_given reduced normalized oklab color width p q).0 in
      let e = flat_ends reduced normalized oklab color width a in
      (omega (arith, A.few, e.inside.0), omega (arith, A.few, e.inside.1))

-- ---- the answer x for an opaque colour is that for its three bytes
module _ (reduced normalized : List ℕ) (oklab : List Float) (r g b : ℕ) (color : NormalizedColor) (c : color.0 ≡ rgba r g b 255) where
  abbrev number : ℕ
  number = first_reply (list_replies reduced normalized oklab)

  abbrev cs : Candidates
  cs = flat reduced normalized oklab

  pub nearest_rgb : {x y : Result ℕ Refusal} → FlatNearest reduced normalized oklab color x → x ≡ y
      → answer (nearest_of cs (to_oklab (opaque_rgb r g b))) number ≡ y
  nearest_rgb a q = of_rgb (λ (u : NormalizedColor). answer (nearest_of cs (to_oklab u)) number) color r g b c (answered _ _ _ a) q

  module _ (width : ℕ) where
    pub two_rgb : {x y : Result Two Refusal} → FlatTwo reduced normalized oklab color width x → x ≡ y
        → answer (nearest_two_of cs width (to_oklab (opaque_rgb r g b)) (opaque_rgb r g b)) number ≡ y
    two_rgb a q = of_rgb (λ (u : NormalizedColor). answer (nearest_two_of cs width (to_oklab u) u) number) color r g b c (answered _ _ _ a) q

    pub bracket_rgb_lem : {x y : Result Bracket Refusal} → FlatBracket reduced normalized oklab color width x → x ≡ y
        → answer (bracket_of cs width (to_oklab (opaque_rgb r g b)) (opaque_rgb r g b)) number ≡ y
    bracket_rgb_lem a q = of_rgb (λ (u : NormalizedColor). answer (bracket_of cs width (to_oklab u) u) number) color r g b c (answered _ _ _ a) q

-- ---- the bracket
module _ (reduced normalized : List ℕ) (oklab : List Float) (r g b width : ℕ) (dark light : List ℕ) where
  pub bracket_lengths : not (is_four dark && is_four light) ≡ true → bracket_rgb reduced normalized oklab r g b width dark light ≡ Err refusal.Length
  unfolding bracket_rgb
  bracket_lengths e = rw e

  -- the answer x of `flat_ordered_bracket` where both are four
  pub bracket_four : not (is_four dark && is_four light) ≡ false → (color : NormalizedColor) → color.0 ≡ rgba r g b 255 → {x y : Result Bracket Refusal}
      → FlatBracket reduced normalized oklab color width x → x ≡ y → bracket_rgb reduced normalized oklab r g b width dark light ≡ y
  unfolding bracket_rgb
  bracket_four e color c a q = rw e (bracket_rgb_lem reduced normalized oklab r g b color c width a q)

-- ---- pick
module _ (dark light : List ℕ) (ratio : Float) (kind x y : ℕ) (chosen : List ℕ) where
  abbrev rooms : Bool
  rooms = is_four dark && (is_four light && is_four chosen)

  pub pick_kind : not (is_kind kind) ≡ true → pick_rooms dark light ratio kind x y chosen ≡ Err refusal.KindOrShift
  unfolding pick_rooms
  pick_kind h = rw h

  pub pick_retired : not (is_kind kind) ≡ false → is_retired kind ≡ true → pick_rooms dark light ratio kind x y chosen ≡ Err refusal.RetiredKind
  unfolding pick_rooms
  pick_retired known h = rw (known, h)

  module _ (known : not (is_kind kind) ≡ false) (there : is_retired kind ≡ false) where
    pub pick_lengths : not rooms ≡ true → pick_rooms dark light ratio kind x y chosen ≡ Err refusal.Length
    unfolding pick_rooms
    pick_lengths e = rw (known, there, e)

    -- `pick`'s answer p, asked of the two colours read, that is the case q
    pub pick_is : not rooms ≡ false → (d l : ReducedColor) → d ≡ reduced_at dark 0 → l ≡ reduced_at light 0 → (p q : Result Choice Refusal)
        → PickedAt (bracket_without d l ratio) kind x y p → p ≡ q → pick_rooms dark light ratio kind x y chosen ≡ q
    unfolding pick_rooms
    pick_is e d l D L p q a b =
        let number : first_reply (badge_pick_replies dark light kind chosen) ≡ first_reply (threshold_replies kind) = rw (known, there, e) in
        (λ i. answer (choice_at (bracket_without (sym D i) (sym L i) ratio) (threshold_at kind x y)) (number i)) ∙ sym (answered _ _ _ a) ∙ b

-- ---- the number of a bracket is the lowest that applies, of `pick` the first

pub bracket_lowest : (reduced normalized : List ℕ) (oklab : List Float) (r g b width : ℕ) (dark light : List ℕ) (ratio : Float) (dark_at light_at : ℕ)
    → Lowest (badge_bracket_replies reduced normalized oklab dark light)
    (badge_ordered_bracket reduced normalized oklab r g b width dark light ratio dark_at light_at).0
unfolding bracket_rgb
bracket_lowest reduced normalized oklab r g b width dark light ratio dark_at light_at =
    let replies = badge_bracket_replies reduced normalized oklab dark light in
    let color = opaque_rgb r g b in
    let value = bracket_of (flat reduced normalized oklab) width (to_oklab color) color in
    subst (Lowest replies) (sym (number (answer value (first_reply replies)) ∙ first_named value replies (refl, (refl, (refl, (refl, tt)))))) (lowest_is replies tt)
  where
    number : (x : Result Bracket Refusal) → (bracket_left dark light ratio dark_at light_at x).0 ≡ number_of x
    number (Ok b) = refl
    number (Err e) = refl

pub pick_first : (dark light : List ℕ) (ratio : Float) (kind x y : ℕ) (chosen : List ℕ)
    → FirstReply (badge_pick_replies dark light kind chosen) (badge_pick dark light ratio kind x y chosen).0
unfolding pick_rooms
pick_first dark light ratio kind x y chosen =
    let replies = badge_pick_replies dark light kind chosen in
    let value = choice_at (bracket_without (reduced_at dark 0) (reduced_at light 0) ratio) (threshold_at kind x y) in
    subst (FirstReply replies) (sym (number (answer value (first_reply replies)) ∙ first_named value replies (refl, (refl, (refl, (refl, tt)))))) (reply_is replies tt)
  where
    number : (c : Result Choice Refusal) → (picked_left chosen c).0 ≡ number_of c
    number (Ok c) = refl
    number (Err e) = refl
