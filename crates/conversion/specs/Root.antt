-- The whole number nearest to a cube root. Definitions only.
-- Written from document 02, Ask 2: "Take the whole number nearest to the cube root instead; no tie can occur, since a half's cube is never whole."
-- Halves are compared by eight times their cubes: (c - 1/2)^3 is (2 c - 1)^3 / 8, and (c + 1/2)^3 is (2 c + 1)^3 / 8.
use Rattle.std.specs.Prelude.{ℕ, zero, suc, ◌+◌, ◌-◌, ◌*◌, ◌^◌, ◌≤◌, Bool, cond, ltb}

abbrev pub cube : ℕ → ℕ
cube c = c * c * c

-- c is nearest to the cube root of n: the root is from c - 1/2 to c + 1/2. Where c is 0, 2 c - 1 is 0 here, and the first holds as it should.
-- (proofs/RootLaws: the root is at neither end, `no_tie`, so that one number alone is nearest, `only_one`.)
pub record Root (n c : ℕ) : Type 0 where
  pub low : cube (2 * c - 1) ≤ 8 * n
  pub high : 8 * n ≤ cube (2 * c + 1)

-- c is too high for the root of n: c - 1/2 is above it
abbrev pub too_high : ℕ → ℕ → Bool
too_high n c = ltb (8 * n) (cube (2 * c - 1))

-- c is too low: c + 1/2 is below it
abbrev pub too_low : ℕ → ℕ → Bool
too_low n c = ltb (cube (2 * c + 1)) (8 * n)

-- c with k binary digits more, the highest first: each is 1 unless the number is then too high
unfoldable pub digits : ℕ → ℕ → ℕ → ℕ
digits n zero c = c
digits n (suc k) c = digits n k (cond (too_high n (c + 2 ^ k)) c (c + 2 ^ k))

-- the number nearest to the root of n, for n up to 10^18: twenty digits (proofs/RootLaws, `root_is`: it is `Root n`)
unfoldable pub root_of : ℕ → ℕ
root_of n = digits n 20 0
