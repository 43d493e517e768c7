-- The threshold matrices, rows from the top. Definitions only.
-- Written from document 01, "The eight threshold matrices are copied from source document 000": the constants of src/dither.rs, without those of the
-- stipples, which document 02 retires (Ask 9).
use Rattle.std.specs.Prelude.{ℕ, List, [], ◌∷◌}

-- BAYER_2X2_MATRIX
abbrev pub bayer2x2 : List (List ℕ)
bayer2x2 = (0 ∷ 2 ∷ []) ∷ (3 ∷ 1 ∷ []) ∷ []

-- BAYER_4X4_MATRIX
abbrev pub bayer4x4 : List (List ℕ)
bayer4x4 = (0 ∷ 8 ∷ 2 ∷ 10 ∷ []) ∷ (12 ∷ 4 ∷ 14 ∷ 6 ∷ []) ∷ (3 ∷ 11 ∷ 1 ∷ 9 ∷ []) ∷ (15 ∷ 7 ∷ 13 ∷ 5 ∷ []) ∷ []

-- BAYER_8X8_MATRIX
abbrev pub bayer8x8 : List (List ℕ)
bayer8x8 =
    (0 ∷ 48 ∷ 12 ∷ 60 ∷ 3 ∷ 51 ∷ 15 ∷ 63 ∷ [])
    ∷ (32 ∷ 16 ∷ 44 ∷ 28 ∷ 35 ∷ 19 ∷ 47 ∷ 31 ∷ [])
    ∷ (8 ∷ 56 ∷ 4 ∷ 52 ∷ 11 ∷ 59 ∷ 7 ∷ 55 ∷ [])
    ∷ (40 ∷ 24 ∷ 36 ∷ 20 ∷ 43 ∷ 27 ∷ 39 ∷ 23 ∷ [])
    ∷ (2 ∷ 50 ∷ 14 ∷ 62 ∷ 1 ∷ 49 ∷ 13 ∷ 61 ∷ [])
    ∷ (34 ∷ 18 ∷ 46 ∷ 30 ∷ 33 ∷ 17 ∷ 45 ∷ 29 ∷ [])
    ∷ (10 ∷ 58 ∷ 6 ∷ 54 ∷ 9 ∷ 57 ∷ 5 ∷ 53 ∷ [])
    ∷ (42 ∷ 26 ∷ 38 ∷ 22 ∷ 41 ∷ 25 ∷ 37 ∷ 21 ∷ [])
    ∷ []

-- CHECKER_MATRIX
abbrev pub checker : List (List ℕ)
checker = (0 ∷ 1 ∷ []) ∷ (1 ∷ 0 ∷ []) ∷ []

-- LINE_V_MATRIX
abbrev pub line_v : List (List ℕ)
line_v = (1 ∷ 0 ∷ []) ∷ (1 ∷ 0 ∷ []) ∷ []

-- LINE_H_MATRIX
abbrev pub line_h : List (List ℕ)
line_h = (1 ∷ 1 ∷ []) ∷ (0 ∷ 0 ∷ []) ∷ []
