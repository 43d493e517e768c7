-- `conversion::linear::curve` meets its contract: nothing is taken from less, and nothing is too large. Assumes nothing.
use Prim.Native.Nat.{ℕ, ◌+◌, ◌-◌, ◌*◌, ◌≤◌}
use native.Mathlib.Nat.{mul-le-mul}
use native.Mathlib.Omega.{arith}
use Rattle.conversion.proofs.linear.curve.Goals as goal

-- the products, from the innermost on
module _ (k : ℕ) (h : k ≤ 255) where
  first : k * (800 - k) ≤ 255 * 800
  first = let l : 800 - k ≤ 800 = omega arith in mul-le-mul h l

  second : k * (345000 - k * (800 - k)) ≤ 255 * 345000
  second = let l : 345000 - k * (800 - k) ≤ 345000 = omega arith in mul-le-mul h l

  third : k * (43500000 + k * (345000 - k * (800 - k))) ≤ 255 * 131475000
  third = let l : 43500000 + k * (345000 - k * (800 - k)) ≤ 131475000 = omega (arith, second) in mul-le-mul h l

  fourth : k * (1210000000 + k * (43500000 + k * (345000 - k * (800 - k)))) ≤ 255 * 34736125000
  fourth = let l : 1210000000 + k * (43500000 + k * (345000 - k * (800 - k))) ≤ 34736125000 = omega (arith, third) in mul-le-mul h l

pub overflow_mul-result-4 : goal.overflow_mul-result-4
overflow_mul-result-4 c = omega (arith, fourth c.args.k (omega arith))
