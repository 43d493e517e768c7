-- `picture::size_wrong` meets its contract: its three tests are the definition's, and the product of two u32 fits. Assumes nothing.
use mathlib.Core.Path.{refl}
use Prim.Native.Nat.{ℕ, ◌*◌, ◌≤◌, ◌<◌}
use native.Mathlib.Nat.{mul-le-mul, lt_of_le_of_lt}
use native.Mathlib.Omega.{arith}
use lib.Dec.{lit<}
use borrow.Author.Rules.{rules}
use Rattle.picture.specs.Bounds.{size_wrong}
use Rattle.picture.proofs.size_wrong.Goals as goal

-- a product of two numbers below 2 ^ 32 is below 2 ^ 64
product : (a b : ℕ) → a < 4294967296 → b < 4294967296 → a * b < 18446744073709551616
product a b A B =
    let h : a ≤ 4294967295 = omega arith in
    let k : b ≤ 4294967295 = omega arith in
    lt_of_le_of_lt (mul-le-mul h k) (lit< tt)

pub overflow_mul-result : goal.overflow_mul-result
overflow_mul-result c = record { fits = product _ _ (search rules) (search rules) }

pub returns : goal.returns
unfolding size_wrong
returns c = refl
