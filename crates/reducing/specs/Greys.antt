-- The greys, and the luma that each has: its own byte, save that 22 of them lose one. Definitions only.
-- Written from `luma_u8` of src/color.rs, which cuts and does not round: where the f32 steps come out just below the byte, the cut gives the byte before
-- (proofs/LumaValues, `grey_luma_lem`).
use Rattle.std.specs.Prelude.{ℕ, ◌-◌, cond, List, [], ◌∷◌, eqb}
use Rattle.lists.specs.Different.{has}
use Rattle.color.specs.declared.NormalizedColor.{NormalizedColor}
use Rattle.color.specs.Color.{rgba}

-- the opaque grey of byte k
abbrev pub grey : ℕ → NormalizedColor
grey k = record { 0 = rgba k k k 255 }

-- the greys that lose one
abbrev pub lessened : List ℕ
lessened =
    53 ∷ 61 ∷ 87 ∷ 93 ∷ 95 ∷ 99 ∷ 103 ∷ 106 ∷ 122 ∷ 139 ∷ 174 ∷ 185 ∷ 186 ∷ 190 ∷ 193 ∷ 198 ∷ 206 ∷ 212 ∷ 217 ∷ 225 ∷ 237 ∷ 244 ∷ []

unfoldable pub grey_luma : ℕ → ℕ
grey_luma k = cond (has eqb k lessened) (k - 1) k
