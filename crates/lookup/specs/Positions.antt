-- Which entry is taken: the first of its reduced colour; and where a bracket's entries stand. Definitions only.
-- Written from document 02, Ask 4: "For a picture's index the position is the first entry equal to the chosen reduced colour, also where `nearest_two`
-- takes a later twin of `a`."
use Rattle.std.specs.Prelude.{ℕ, ◌<◌, ◌≡◌}
use Rattle.lists.specs.First.{first_that}
use Rattle.color.specs.declared.ReducedColor.{ReducedColor}
use Rattle.color.specs.Color.{same_reduced}
use Rattle.shortlist.specs.Candidates.{Candidates}
use Rattle.lookup.specs.declared.Bracket.{Bracket}
use Rattle.lookup.specs.declared.Choice.{Choice}

-- twins, which are entries of the same reduced colour by all four bytes, are alike in all: as in a list that is made of its reduced colours
pub record Alike (cs : Candidates) : Type 0 where
  pub normalized : (j k : ℕ) → j < cs.count → k < cs.count → cs.reduced j ≡ cs.reduced k → cs.normalized j ≡ cs.normalized k
  pub oklab : (j k : ℕ) → j < cs.count → k < cs.count → cs.reduced j ≡ cs.reduced k → cs.oklab j ≡ cs.oklab k

-- the first entry equal to a reduced colour; their number where none is
unfoldable pub first_equal : Candidates → ReducedColor → ℕ
first_equal cs c = first_that (λ k. same_reduced (cs.reduced k) c) cs.count

-- entry k is the first of its reduced colour
pub record FirstOfColor (cs : Candidates) (k : ℕ) : Type 0 where
  pub inside : k < cs.count
  pub first : (j : ℕ) → j < k → cs.reduced j ≡ cs.reduced k → ⊥

-- an entry of a reduced colour is taken: where twins are alike, the first such
pub record Takes (cs : Candidates) (c : ReducedColor) (r : Choice) : Type 0 where
  pub color : r.color ≡ c
  pub inside : r.position < cs.count
  pub position : Alike cs → r.position ≡ first_equal cs c

-- dark and light of a bracket are the entries at its positions
pub record EndsOf (cs : Candidates) (b : Bracket) : Type 0 where
  pub inside : (b.dark_position < cs.count) × (b.light_position < cs.count)
  pub dark : b.dark ≡ cs.reduced b.dark_position
  pub light : b.light ≡ cs.reduced b.light_position
