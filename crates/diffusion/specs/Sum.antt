-- Sums over the first pixels. Definitions only.
-- Written for document 01, "Loss at a dithered pixel": "the terms add up weight times residual over ..".
use Rattle.std.specs.Prelude.{ℕ, zero, suc, ℤ, pos, ◌+ℤ◌}

-- f 0 + .. + f (n - 1)
unfoldable pub sum : (ℕ → ℤ) → ℕ → ℤ
sum f zero = pos 0
sum f (suc n) = sum f n +ℤ f n
