-- The others beside a record of an accepted list: their distances are finite and not negative, the shortlist's positions are those of records, and the second
-- is the one of that shortlist. Assumes nothing.
use Rattle.std.proofs.Common.{◌≡◌, ℕ, ◌<◌, List, length, get_or, take, ap, sym}
use Rattle.floats.specs.Bounds.{Upto}
use Rattle.color.specs.declared.CandidateColor.{CandidateColor}
use Rattle.color.specs.declared.NormalizedColor.{NormalizedColor}
use Rattle.shortlist.specs.declared.Shortlist.{Shortlist}
use Rattle.shortlist.specs.Shortlist.{shortlist_of, InArrays}
use Rattle.shortlist.proofs.NearestLaws.{distances_upto, distances_plain}
use Rattle.shortlist.proofs.ShortlistLaws.{shortlist_inside}
use Rattle.lookup.specs.Second.{second_beside, second_to}
use Rattle.records.specs.Lists.{record_at, candidates_of, far_of, records_number}
use Rattle.records.proofs.ListLaws.{accepted}

module _ (list : List CandidateColor) (z : records_number list ≡ 0) (a : ℕ) (h : a < length list) where
  pub far_upto : (k : ℕ) → k < length list → Upto 112 (far_of list (record_at list a).oklab k)
  far_upto =
      let range = (accepted list z).range in
      distances_upto (candidates_of list).oklab (length list) range (record_at list a).oklab (range a h)

  -- what is listed are positions of records
  pub listed_inside : (width : ℕ) (ks : List ℕ) → ks ≡ shortlist_of (far_of list (record_at list a).oklab) a (length list) width
      → (i : ℕ) → i < length ks → get_or ks i 0 < length list
  listed_inside width =
      let range = (accepted list z).range in
      shortlist_inside (far_of list (record_at list a).oklab) a (length list) width
      (distances_plain (candidates_of list).oklab (length list) range (record_at list a).oklab (range a h))

-- the second beside record a is that of the shortlist that is held
pub second_kept : (list : List CandidateColor) (width : ℕ) (color : NormalizedColor) (a : ℕ) (s : Shortlist)
    → InArrays (far_of list (record_at list a).oklab) s (shortlist_of (far_of list (record_at list a).oklab) a (length list) width)
    → second_to (candidates_of list) width color a ≡ second_beside (candidates_of list).normalized a color (take s.count s.positions)
second_kept list width color a s h = ap (second_beside (candidates_of list).normalized a color) (sym h.places)
