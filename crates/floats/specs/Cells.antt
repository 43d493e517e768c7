-- The original's error cells: an f32 that is a number of sixteenths, and a buffer of them. Definitions only.
-- Written from document 01: cells "are exact sixteenths within ±255".
use Rattle.std.specs.Prelude.{ℕ, ◌≤◌, ◌<◌, ◌≡◌, List, map, ℤ, pos, nat_abs, length, get_or, Float}
use Rattle.floats.specs.Over.{sixteenths}

-- the float x is n sixteenths, at most k of them either way
pub record Cell (k : ℕ) (x : Float) (n : ℤ) : Type 0 where
  pub is : x ≡ sixteenths n
  pub small : nat_abs n ≤ k

-- the buffer xs holds the sixteenths zs, each at most k either way
pub record Cells (k : ℕ) (xs : List Float) (zs : List ℤ) : Type 0 where
  pub is : xs ≡ map sixteenths zs
  pub small : (i : ℕ) → i < length zs → nat_abs (get_or zs i (pos 0)) ≤ k
