-- Shortlists remembered by the entry that they belong to, in 128 rows. Definitions only.
-- Written from document 01, "Choosing colours": "The other records, ordered by distance from `a` and then by position, give a shortlist": it goes by
-- `a` alone.
use Rattle.std.specs.Prelude.{ℕ, ◌<◌, ◌≡◌, List, Some, length, get_or, take}
use Rattle.color.specs.declared.Oklab.{Oklab}
use Rattle.shortlist.specs.Candidates.{Candidates}
use Rattle.shortlist.specs.Nearest.{distances}
use Rattle.shortlist.specs.Shortlist.{shortlist_of}
use Rattle.remembered.specs.declared.shorts.Row.{Row}
use Rattle.remembered.specs.declared.Memory.{Memory}
use Rattle.remembered.specs.Table.{nearest_both, TableOf}

-- the shortlist of entry a
unfoldable pub shortlist_at : (ℕ → Oklab) → ℕ → ℕ → ℕ → List ℕ
shortlist_at oklab n width a = shortlist_of (distances (oklab a) oklab) a n width

-- the memory's rows are of f's shortlists: each row that is an entry's begins with what f answers for that entry
pub record RowsOf (f : ℕ → List ℕ) (memory : Memory) : Type 0 where
  pub right : (j a : ℕ) → j < 128 → (any : Row) → (get_or memory.rows j any).entry ≡ Some a
      → take (length (f a)) (get_or memory.rows j any).positions ≡ f a

-- what is remembered for an ordered kind: pairs by colour, and shortlists
pub record TableAndRows (cs : Candidates) (width : ℕ) (memory : Memory) : Type 0 where
  pub pairs : TableOf (nearest_both cs width) memory
  pub shorts : RowsOf (shortlist_at cs.oklab cs.count width) memory
