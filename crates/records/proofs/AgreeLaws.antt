-- The lookups over records and the flat lookups agree on the same list: taken apart, the list has the same number, and the flat answer's positions are
-- those of the records answered. Assumes nothing.
use Rattle.std.proofs.Common.{◌≡◌, ℕ, zero, suc, List, refl, sym, ap, ◌∙◌}
use Rattle.std.specs.Prelude.{Option, Result, Ok}
use Rattle.replies.specs.declared.Refusal.{Refusal}
use Rattle.replies.specs.Refusals.{answer}
use Rattle.replies.proofs.AnswerLaws.{answered}
use Rattle.color.specs.declared.CandidateColor.{CandidateColor}
use Rattle.color.specs.declared.NormalizedColor.{NormalizedColor}
use Rattle.conversion.specs.Oklab.{to_oklab}
use Rattle.shortlist.specs.Candidates.{flat}
use Rattle.shortlist.specs.Nearest.{nearest_of}
use Rattle.lookup.specs.declared.Two.{Two}
use Rattle.lookup.specs.declared.Bracket.{Bracket}
use Rattle.lookup.specs.Second.{nearest_two_of}
use Rattle.lookup.specs.Bracket.{bracket_of}
use Rattle.lookup.specs.Lists.{list_number}
use Rattle.lookup.specs.Answers.{FlatNearest, FlatTwo, FlatBracket}
use Rattle.records.specs.declared.Taken.{Taken}
use Rattle.records.specs.Lists.{records_number, number_by, reduced_bytes, normalized_bytes, oklab_floats}
use Rattle.records.specs.Answers.{taken_at, nearest_record, records_at, nearest_two_records, records_bracket}
use Rattle.records.specs.Answers.{NearestRecord, NearestTwoRecords, RecordsBracket, found_in, found_two_in}
use Rattle.records.proofs.FlatLaws.{flat_is, number_agrees}

module _ (list : List CandidateColor) (color : NormalizedColor) where
  abbrev n : ℕ
  n = list_number (reduced_bytes list) (normalized_bytes list) (oklab_floats list)

  -- ---- with the same number the same is answered
  nearest_with : (n : ℕ)
      → found_in list (answer (nearest_of (flat (reduced_bytes list) (normalized_bytes list) (oklab_floats list)) (to_oklab color)) n)
      ≡ answer (nearest_record list color) n
  nearest_with zero = λ i. Ok (taken_at list (nearest_of (flat_is list i) (to_oklab color)))
  nearest_with (suc n) = refl

  module _ (width : ℕ) where
    two_with : (n : ℕ)
        → found_two_in list (answer (nearest_two_of (flat (reduced_bytes list) (normalized_bytes list) (oklab_floats list)) width (to_oklab color) color) n)
        ≡ answer (nearest_two_records list color width) n
    unfolding nearest_two_of
    two_with zero = λ i. Ok (let t = nearest_two_of (flat_is list i) width (to_oklab color) color in records_at list t.first t.second)
    two_with (suc n) = refl

    bracket_with_lem : (n : ℕ)
        → ◌≡◌ {A = Result Bracket Refusal} (answer (bracket_of (flat (reduced_bytes list) (normalized_bytes list) (oklab_floats list)) width (to_oklab color) color) n)
        (answer (records_bracket list color width) n)
    bracket_with_lem zero = λ i. Ok (bracket_of (flat_is list i) width (to_oklab color) color)
    bracket_with_lem (suc n) = refl

  -- ---- and the number is the same: what is answered of the list
  pub nearest_flat : {x : Result ℕ Refusal} → FlatNearest (reduced_bytes list) (normalized_bytes list) (oklab_floats list) color x
      → found_in list x ≡ answer (nearest_record list color) (records_number list)
  unfolding list_number
  nearest_flat h = ap (found_in list) (answered _ _ _ h) ∙ nearest_with n ∙ ap (answer (nearest_record list color)) (number_agrees list)

  pub nearest_agrees : {x : Result ℕ Refusal} {r : Result Taken Refusal} → FlatNearest (reduced_bytes list) (normalized_bytes list) (oklab_floats list) color x
      → NearestRecord list color r → found_in list x ≡ r
  unfolding number_by
  nearest_agrees h p = nearest_flat h ∙ sym (answered _ _ _ p)

  module _ (width : ℕ) where
    pub two_flat : {x : Result Two Refusal} → FlatTwo (reduced_bytes list) (normalized_bytes list) (oklab_floats list) color width x
        → found_two_in list x ≡ answer (nearest_two_records list color width) (records_number list)
    unfolding list_number
    two_flat h = ap (found_two_in list) (answered _ _ _ h) ∙ two_with width n ∙ ap (answer (nearest_two_records list color width)) (number_agrees list)

    pub two_agrees : {x : Result Two Refusal} {r : Result (Taken × Option Taken) Refusal}
        → FlatTwo (reduced_bytes list) (normalized_bytes list) (oklab_floats list) color width x → NearestTwoRecords list color width r
        → found_two_in list x ≡ r
    unfolding number_by
    two_agrees h p = two_flat h ∙ sym (answered _ _ _ p)

    pub bracket_flat : {x : Result Bracket Refusal} → FlatBracket (reduced_bytes list) (normalized_bytes list) (oklab_floats list) color width x
        → x ≡ answer (records_bracket list color width) (records_number list)
    unfolding list_number
    bracket_flat h = answered _ _ _ h ∙ bracket_with_lem width n ∙ ap (answer (records_bracket list color width)) (number_agrees list)

    pub bracket_agrees : {x r : Result Bracket Refusal} → FlatBracket (reduced_bytes list) (normalized_bytes list) (oklab_floats list) color width x
        → RecordsBracket list color width r → x ≡ r
    unfolding number_by
    bracket_agrees h p = bracket_flat h ∙ sym (answered _ _ _ p)
