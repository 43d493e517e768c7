-- The nearest candidate. Definitions only.
-- Written from document 01, "Choosing colours": "`nearest`: smallest distance, first of equals."
use Rattle.std.specs.Prelude.{◌≡◌, ℕ, ◌≤◌, ◌<◌, Bool, cond, not, T, Float}
use Rattle.std.specs.Float.Ieee.{lt}
use Rattle.lists.specs.First.{all_pass}
use Rattle.lists.specs.Least.{least_of}
use Rattle.floats.specs.Bounds.{Upto}
use Rattle.color.specs.declared.Oklab.{Oklab}
use Rattle.color.specs.Oklab.{sqdist_of}
use Rattle.shortlist.specs.declared.near.Leader.{Leader}
use Rattle.shortlist.specs.Candidates.{Candidates}

-- how far the colours of a list are from a colour
abbrev pub distances : Oklab → (ℕ → Oklab) → ℕ → Float
distances o oklab k = sqdist_of o (oklab k)

-- among n colours, the first of those at the smallest distance (proofs/NearestLaws)
abbrev pub nearest_in : (ℕ → Oklab) → ℕ → Oklab → ℕ
nearest_in oklab n o = least_of lt (distances o oklab) n

abbrev pub nearest_of : Candidates → Oklab → ℕ
nearest_of cs o = nearest_in cs.oklab cs.count o

-- ---- how the code looks for it

-- the n entries from k on are all farther than a limit
abbrev pub farther : (ℕ → Float) → Float → ℕ → ℕ → Bool
farther d limit = all_pass (λ j. lt limit (d j))

-- the lesser of two, the first of equals
unfoldable pub lesser_of : Float → Float → Float
lesser_of a b = cond (lt b a) b a

-- entry k with its distance
abbrev pub entry_at : (ℕ → Float) → ℕ → Leader
entry_at d k = record { position = k; distance = d k }

-- the nearer of two, the first where they are as near
unfoldable pub nearer_of : Leader → Leader → Leader
nearer_of a b = cond (lt b.distance a.distance) b a

-- of n entries the first i are seen. The leader, one of them or the very first, is as near as any of them that is not farther than the reach, and
-- nearer than those of these that stand before it
pub record Leads (d : ℕ → Float) (reach : Float) (n i : ℕ) (leader : Leader) : Type 0 where
  pub inside : leader.position < n
  pub behind : leader.position ≤ i
  pub away : leader.distance ≡ d leader.position
  pub least : (j : ℕ) → j < i → T (not (lt reach (d j))) → T (not (lt (d j) leader.distance))
  pub first : (j : ℕ) → j < i → T (not (lt reach (d j))) → j < leader.position → T (lt leader.distance (d j))

-- what led the first i leads the first k as `after`, in every list of distances that are finite and not negative
abbrev pub Onward : (ℕ → Float) → Float → ℕ → ℕ → Leader → Leader → Type 0
Onward d reach i k before after = (n : ℕ) → k ≤ n → ((j : ℕ) → j < n → Upto 112 (d j)) → Leads d reach n i before → Leads d reach n k after
