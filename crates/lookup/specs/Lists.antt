-- Flat lists of candidates: what is refused of them. Definitions only.
-- Written from document 01, "Bounds and replies": "Lookup lists 1..65,536", refusals 3, 4 and 6, "The lowest number that applies is given."
use Rattle.std.specs.Prelude.{◌≡◌, ℕ, ◌*◌, ◌/◌, ◌%◌, ◌<◌, List, [], ◌∷◌, Bool, true, false, not, ◌&&◌, T, eqb, ltb, length, get_or, Float}
use Rattle.std.specs.Float.{nan}
use Rattle.lists.specs.First.{first_that}
use Rattle.replies.specs.Replies.{◌if◌, Reply, first_reply}
use Rattle.color.specs.Oklab.{in_range}

-- reduced and normalised bytes are as many, four an entry, and Oklab floats three an entry
unfoldable pub lengths_fit : ℕ → ℕ → ℕ → Bool
lengths_fit reduced normalized oklab = eqb (reduced % 4) 0 && (eqb normalized reduced && eqb oklab (3 * (reduced / 4)))

-- from 1 to 65,536 entries
unfoldable pub count_fits : ℕ → Bool
count_fits n = ltb 0 n && not (ltb 65536 n)

-- the first component that is not from -2 to 2; the length where all are
unfoldable pub first_outside : List Float → ℕ
first_outside xs = first_that (λ k. not (in_range (get_or xs k nan))) (length xs)

-- the numbers of a list of reduced bytes, normalised bytes and Oklab floats, and when each applies
abbrev pub list_replies : List ℕ → List ℕ → List Float → List Reply
list_replies reduced normalized oklab =
    (3 if not (lengths_fit (length reduced) (length normalized) (length oklab)))
    ∷ (4 if not (count_fits (length reduced / 4)))
    ∷ (6 if ltb (first_outside oklab) (length oklab))
    ∷ []

-- the number of a list: 0 where it is accepted
unfoldable pub list_number : List ℕ → List ℕ → List Float → ℕ
list_number reduced normalized oklab = first_reply (list_replies reduced normalized oklab)

-- ---- how the code looks at the components

-- component k is from -2 to 2
abbrev pub inside_at : List Float → ℕ → Bool
inside_at xs k = in_range (get_or xs k nan)

-- what is said of the first i components: whether one is outside
pub record Looked (xs : List Float) (i : ℕ) (t : Bool) : Type 0 where
  pub some : t ≡ true → (k : ℕ) × (k < i) × T (not (inside_at xs k))
  pub none : t ≡ false → (k : ℕ) → k < i → T (not (not (inside_at xs k)))
