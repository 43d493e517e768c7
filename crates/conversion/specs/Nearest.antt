-- Division to the nearest whole number. Definitions only.
-- Written from document 01, "Conversion": "Each is divided by 10^10 to the nearest whole number, halves toward plus infinity."
use Rattle.std.specs.Prelude.{◌≡◌, ℕ, ◌*◌, ◌/◌, ◌≤◌, ℤ, pos, negsuc, neg_ℤ, ◌+ℤ◌, ◌-ℤ◌, ◌*ℤ◌, ◌≤ℤ◌, ◌<ℤ◌}

-- z / m, rounded down: from -m to -1 that is -1, which is `negsuc 0`
abbrev pub floor : ℤ → ℕ → ℤ
floor (pos n) m = pos (n / m)
floor (negsuc n) m = negsuc (n / m)

-- z / d to the nearest: z / d + 1/2, rounded down
unfoldable pub nearest : ℕ → ℤ → ℤ
nearest d z = floor (z *ℤ pos 2 +ℤ pos d) (2 * d)

-- q is z / d to the nearest, halves toward plus infinity: -1/2 <= z / d - q < 1/2, times 2 d (proofs/NearestLaws: this is `nearest`)
pub record Nearest (d : ℕ) (z q : ℤ) : Type 0 where
  pub low : neg_ℤ (pos d) ≤ℤ (z *ℤ pos 2 -ℤ q *ℤ pos (2 * d))
  pub high : (z *ℤ pos 2 -ℤ q *ℤ pos (2 * d)) <ℤ pos d

-- q is (p - n) / 10^10 to the nearest, and 3 * 10^6 more
pub record RaisedQuotient (p n q : ℕ) : Type 0 where
  pub small : q ≤ 6000000
  pub is : pos q -ℤ pos 3000000 ≡ nearest 10000000000 (pos p -ℤ pos n)
