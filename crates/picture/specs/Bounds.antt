-- The bounds of pictures, tables and tiles. Definitions only.
-- Written from document 01, "Bounds and replies": "Width and height 0..4096, at most 1,048,576 pixels", "Buffers have exactly the length needed",
-- "Tile sides 1..4096", and the rows 2, 3 and 5 of its table; and from document 02, Ask 5: "3 covers the new buffer".
use Rattle.std.specs.Prelude.{ℕ, ◌+◌, ◌*◌, Bool, ◌||◌, not, ltb, eqb}
use Rattle.reducing.specs.declared.Reducing.{Reducing}
use Rattle.reducing.specs.declared.Reducing.TheVariants.{ByAlpha, Grey, OpaqueColor}

-- a side above its bound, or too many pixels
unfoldable pub size_wrong : ℕ → ℕ → Bool
size_wrong width height = ltb 4096 width || (ltb 4096 height || ltb 1048576 (width * height))

-- "origin + side above 4,294,967,295"
unfoldable pub origin_wrong : ℕ → ℕ → Bool
origin_wrong origin side = ltb 4294967295 (origin + side)

-- a table that has not 256 entries
unfoldable pub table_wrong : ℕ → Bool
table_wrong entries = not (eqb entries 256)

-- how many bytes of opaque pixels go with n pixels: four each for grey and opaque colour, none by alpha
abbrev pub opaque_needed : Reducing → ℕ → ℕ
opaque_needed ByAlpha n = 0
opaque_needed Grey n = 4 * n
opaque_needed OpaqueColor n = 4 * n

-- what every call on a picture is lent: a table that has not 256 entries, or pixels that are not n of four bytes, or opaque ones that are not as needed
unfoldable pub lent_wrong : Reducing → (reduction scale pixels opaque n : ℕ) → Bool
lent_wrong by reduction scale pixels opaque n =
    table_wrong reduction || (table_wrong scale || (not (eqb pixels (4 * n)) || not (eqb opaque (opaque_needed by n))))

-- a tile side that is not from 1 to 4096
unfoldable pub side_wrong : ℕ → Bool
side_wrong side = eqb side 0 || ltb 4096 side
