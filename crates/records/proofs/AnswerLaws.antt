-- The answers over records: the number of a list is the lowest that applies; and the bracket of two that are found, one alone and two. Assumes nothing.
use Rattle.std.proofs.Common.{◌≡◌, ℕ, List, sym, ap, ◌∙◌}
use Rattle.std.specs.Prelude.{Some, None}
use Rattle.replies.specs.Replies.{Lowest, first_reply}
use Rattle.replies.proofs.LowestLaws.{lowest_is}
use Rattle.color.specs.declared.CandidateColor.{CandidateColor}
use Rattle.color.specs.declared.NormalizedColor.{NormalizedColor}
use Rattle.color.specs.declared.Oklab.{Oklab}
use Rattle.shortlist.specs.Candidates.{Candidates}
use Rattle.lookup.specs.declared.Two.{Two}
use Rattle.lookup.specs.declared.BracketAt.{BracketAt}
use Rattle.lookup.specs.Second.{nearest_two_of}
use Rattle.lookup.specs.Bracket.{bracket_with, solid_at, bracket_two, bracket_at_of}
use Rattle.lookup.proofs.BracketLaws.{bracket_is}
use Rattle.records.specs.Lists.{record_at, candidates_of, record_replies}

-- the number of a list is the lowest that applies
pub number_lowest : (list : List CandidateColor) → Lowest (record_replies list) (first_reply (record_replies list))
number_lowest list = lowest_is (record_replies list) tt

-- the bracket of two that are found
module _ (list : List CandidateColor) (width : ℕ) (o : Oklab) (color : NormalizedColor) (two : Two)
    (found : two ≡ nearest_two_of (candidates_of list) width o color) where
  abbrev cs : Candidates
  cs = candidates_of list

  pub solid_found : two.second ≡ None → {r : BracketAt} → r ≡ solid_at two.first → r ≡ bracket_at_of cs width o color
  solid_found e {r} q = bracket_is cs width o color two found r (q ∙ ap (bracket_two cs.oklab cs.normalized color two.first) (sym e))

  pub bracket_found : (b : ℕ) → two.second ≡ Some b → {r : BracketAt}
      → r ≡ bracket_with cs.oklab two.first b (record_at list two.first).normalized (record_at list b).normalized color → r ≡ bracket_at_of cs width o color
  bracket_found b e {r} q = bracket_is cs width o color two found r (q ∙ ap (bracket_two cs.oklab cs.normalized color two.first) (sym e))
