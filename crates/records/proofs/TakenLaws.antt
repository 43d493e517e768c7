-- Which records are answered: each is the record of the list at its position (`nearest_taken`, `two_taken`, `bracket_taken`); the nearest's position is
-- the first of the least distances (`nearest_first`), and the two positions are what document 01 says of them (`two_positions`). Assumes nothing.
use Rattle.std.specs.Prelude.{Option, Some, None, Result, Ok, Err}
use mathlib.Core.Path.{◌≡◌, refl, sym, ap, ◌∙◌, subst}
use mathlib.Core.List.{List}
use Prim.Native.Nat.{ℕ, ◌<◌}
use lib.Dec.{T}
use lib.ListN.{length}
use lib.Ieee.{lt}
use Rattle.lists.specs.Least.{Least}
use Rattle.replies.specs.declared.Refusal.{Refusal}
use Rattle.replies.specs.Replies.{first_reply}
use Rattle.replies.specs.Refusals.{number_of, answer}
use Rattle.replies.proofs.AnswerLaws.{answered}
use Rattle.color.specs.declared.CandidateColor.{CandidateColor}
use Rattle.color.specs.declared.NormalizedColor.{NormalizedColor}
use Rattle.color.specs.Oklab.{all_in_range}
use Rattle.conversion.specs.Oklab.{to_oklab}
use Rattle.mixing.specs.Lerp.{Bytes}
use Rattle.shortlist.specs.Candidates.{Candidates}
use Rattle.shortlist.specs.Nearest.{distances, nearest_of}
use Rattle.shortlist.proofs.NearestLaws.{nearest_least, nearest_inside}
use Rattle.lookup.specs.declared.Two.{Two}
use Rattle.lookup.specs.declared.Bracket.{Bracket}
use Rattle.lookup.specs.Second.{nearest_two_of, NearestTwo}
use Rattle.lookup.specs.Bracket.{bracket_of}
use Rattle.lookup.specs.Positions.{EndsOf}
use Rattle.lookup.proofs.TwoLaws.{first_inside, second_inside, nearest_two_is}
use Rattle.lookup.proofs.PositionLaws.{bracket_ends}
use Rattle.lookup.proofs.AnswerLaws.{in_range_lem}
use Rattle.records.specs.declared.Taken.{Taken}
use Rattle.records.specs.Lists.{record_at, candidates_of, record_replies, number_by, records_number}
use Rattle.records.specs.Answers.{taken_at, nearest_record, records_at, nearest_two_records, records_bracket}
use Rattle.records.specs.Answers.{NearestRecord, NearestTwoRecords, RecordsBracket, TakenFrom, EachTaken, positions_of}
use Rattle.records.proofs.ListLaws.{accepted}

module _ (list : List CandidateColor) (color : NormalizedColor) where
  abbrev cs : Candidates
  cs = candidates_of list

  asked_in_range : Bytes color → T (all_in_range (to_oklab color))
  asked_in_range C = in_range_lem color (to_oklab color) refl C.r C.g C.b

  -- ---- the nearest

  -- a record is answered of an accepted list
  nearest_given : {t : Taken} → NearestRecord list color (Ok t) → (records_number list ≡ 0) × (t ≡ taken_at list (nearest_of cs (to_oklab color)))
  unfolding number_by
  nearest_given {t} a =
      let z : first_reply (record_replies list) ≡ 0 = sym a.number in
      let s : Ok t ≡ answer (nearest_record list color) 0 = answered _ _ _ a ∙ ap (answer (nearest_record list color)) z in
      (z, cc)

  pub nearest_taken : {t : Taken} → NearestRecord list color (Ok t) → TakenFrom list t
  nearest_taken a =
      let g = nearest_given a in
      subst (TakenFrom list) (sym g.1)
      (record { inside = nearest_inside cs.oklab (length list) (to_oklab color) (accepted list g.0).positive; copy = refl })

  -- no record is nearer than the one answered, and every earlier record is farther
  pub nearest_first : {t : Taken} → NearestRecord list color (Ok t) → Bytes color
      → Least lt (distances (to_oklab color) cs.oklab) (length list) t.position
  nearest_first a C =
      let g = nearest_given a in
      let A = accepted list g.0 in
      subst (λ (t : Taken). Least lt (distances (to_oklab color) cs.oklab) (length list) t.position) (sym g.1)
      (nearest_least cs (to_oklab color) A.positive A.range (asked_in_range C))

  module _ (width : ℕ) where
    -- ---- the two
    abbrev two : Two
    two = nearest_two_of cs width (to_oklab color) color

    two_given : {r : Result (Taken × Option Taken) Refusal} → NearestTwoRecords list color width r → number_of r ≡ 0
        → (records_number list ≡ 0) × (r ≡ Ok (records_at list two.first two.second))
    unfolding number_by
    two_given a e =
        let z : first_reply (record_replies list) ≡ 0 = sym a.number ∙ e in
        (z, answered _ _ _ a ∙ ap (answer (nearest_two_records list color width)) z)

    -- the first is the nearest, and the second of its shortlist the one that mixes best
    pub two_positions : {r : Result (Taken × Option Taken) Refusal} → NearestTwoRecords list color width r → number_of r ≡ 0 → Bytes color
        → ((k : ℕ) → k < length list → Bytes (record_at list k).normalized) → NearestTwo cs width (to_oklab color) color (positions_of r)
    two_positions a e C bytes =
        let g = two_given a e in
        let A = accepted list g.0 in
        subst (NearestTwo cs width (to_oklab color) color) (sym (ap positions_of g.1 ∙ same two.first two.second))
        (nearest_two_is cs width (to_oklab color) color A.positive A.range (asked_in_range C) bytes C)
      where
        same : (n : ℕ) (s : Option ℕ) → positions_of (Ok (records_at list n s)) ≡ (record { first = n; second = s })
        same n None = refl
        same n (Some k) = refl

    -- each is the record at its position
    each_taken : {r : Result (Taken × Option Taken) Refusal} → NearestTwoRecords list color width r → number_of r ≡ 0 → EachTaken list r
    each_taken a e =
        let g = two_given a e in
        let A = accepted list g.0 in
        subst (EachTaken list) (sym g.1)
        (each two.second (second_inside cs width (to_oklab color) color A.positive A.range) (first_inside cs width (to_oklab color) color A.positive))
      where
        each : (s : Option ℕ) → ((k : ℕ) → s ≡ Some k → k < length list) → two.first < length list → EachTaken list (Ok (records_at list two.first s))
        each None h i = record { inside = i; copy = refl }
        each (Some k) h i = (record { inside = i; copy = refl }, record { inside = h k refl; copy = refl })

    pub two_taken : (r : Result (Taken × Option Taken) Refusal) → NearestTwoRecords list color width r → EachTaken list r
    two_taken (Ok (t, Some u)) a = each_taken a refl
    two_taken (Ok (t, None)) a = each_taken a refl
    two_taken (Err e) a = tt

    -- ---- the bracket
    pub bracket_taken : {b : Bracket} → RecordsBracket list color width (Ok b) → EndsOf cs b
    unfolding number_by
    bracket_taken {b} a =
        let z : first_reply (record_replies list) ≡ 0 = sym a.number in
        let s : Ok b ≡ answer (records_bracket list color width) 0 = answered _ _ _ a ∙ ap (answer (records_bracket list color width)) z in
        let e : b ≡ bracket_of cs width (to_oklab color) color = cc in
        let A = accepted list z in
        subst (EndsOf cs) (sym e) (bracket_ends cs A.positive A.range width (to_oklab color) color)
