-- The different values of some positions, each once. Definitions only.
-- Written from document 01, "Choosing colours": "have more different chosen reduced colours than that".
use Rattle.std.specs.Prelude.{◌≡◌, Bool, true, false, cond, not, List, [], ◌∷◌, ◌++◌, ℕ, zero, suc, ◌<◌, length}
use Rattle.lists.specs.Order.{In, Ordered}

module _ {A : Type 0} (same : A → A → Bool) where
  -- v is in the list
  unfoldable pub has : A → List A → Bool
  has v [] = false
  has v (x ∷ xs) = cond (same x v) true (has v xs)

  -- v behind the others, unless it is among them
  unfoldable pub add_new : A → List A → List A
  add_new v xs = cond (has v xs) xs (xs ++ (v ∷ []))

  -- no value stands twice
  abbrev pub Once : List A → Type 0
  Once xs = Ordered (λ x y. not (same x y)) xs

  module _ (passes : ℕ → Bool) (value : ℕ → A) where
    -- the different values of those of the first n positions that pass, each once, in the order in which they first occur
    unfoldable pub differing : ℕ → List A
    differing zero = []
    differing (suc n) = cond (passes n) (add_new (value n) (differing n)) (differing n)

    -- v is the value of one of the first n positions, and that position passes
    abbrev pub Occurs : ℕ → A → Type 0
    Occurs n v = (j : ℕ) × (j < n) × (passes j ≡ true) × (value j ≡ v)

    -- what `differing` is; two lists that are this are equally long (proofs/DifferentLaws)
    pub record Different (n : ℕ) (xs : List A) : Type 0 where
      pub once : Once xs
      pub sound : (v : A) → In v xs → Occurs n v
      pub whole : (v : A) → Occurs n v → In v xs

    -- k values, no two the same, all of which occur: there are at least k different ones
    pub record Many (n k : ℕ) : Type 0 where
      pub values : List A
      pub count : length values ≡ k
      pub once : Once values
      pub occur : (v : A) → In v values → Occurs n v
