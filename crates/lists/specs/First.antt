-- The first position that passes a test, and positions side by side that all pass. Definitions only.
-- Written from document 01, "Choosing colours" and "Bounds and replies": "the first entry equal to the chosen reduced colour", "first tile's number".
use Rattle.std.specs.Prelude.{ℕ, zero, suc, ◌+◌, ◌≤◌, ◌<◌, Bool, true, cond, not, ◌&&◌, T}

-- the first position below n that passes the test; n where none does
unfoldable pub first_that : (ℕ → Bool) → ℕ → ℕ
first_that test zero = zero
first_that test (suc n) = cond (test zero) zero (suc (first_that (λ k. test (suc k)) n))

-- r is that position: what `first_that` is, and all that it is (proofs/FirstLaws)
pub record First (test : ℕ → Bool) (n r : ℕ) : Type 0 where
  pub inside : r ≤ n
  pub before : (k : ℕ) → k < r → T (not (test k))
  pub passes : r < n → T (test r)

-- the n positions from k on all pass the test
unfoldable pub all_pass : (ℕ → Bool) → ℕ → ℕ → Bool
all_pass test k zero = true
all_pass test k (suc n) = all_pass test k n && test (k + n)
