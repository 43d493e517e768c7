-- The RGBA record and the two kinds of colour over it. Definitions only.
-- Written from document 01: "Which document decides" and "Which places take which form".
use Rattle.std.specs.Prelude.{ℕ, ◌+◌, ◌*◌, ◌≡◌, Bool, ◌&&◌, List, [], ◌∷◌, eqb, get_or}
use Rattle.color.specs.declared.Rgba8888.{Rgba8888}
use Rattle.color.specs.declared.ReducedColor.{ReducedColor}
use Rattle.color.specs.declared.NormalizedColor.{NormalizedColor}

abbrev pub rgba : ℕ → ℕ → ℕ → ℕ → Rgba8888
rgba r g b a = record { r = r; g = g; b = b; a = a }

-- the constant TRANSPARENT of each kind: all four bytes 0
abbrev pub transparent_reduced : ReducedColor
transparent_reduced = record { 0 = rgba 0 0 0 0 }

abbrev pub transparent_normalized : NormalizedColor
transparent_normalized = record { 0 = rgba 0 0 0 0 }

-- "A reduced colour is transparent if its alpha is 0"
abbrev pub is_transparent : Rgba8888 → Bool
is_transparent c = eqb c.a 0

-- the same red, green and blue, whatever the alphas are
unfoldable pub same_rgb : ReducedColor → ReducedColor → Bool
same_rgb a b = eqb a.0.r b.0.r && (eqb a.0.g b.0.g && eqb a.0.b b.0.b)

-- what `eq_rgb` promises of its answer t
abbrev pub EqRgbAnswered : (a b : ReducedColor) → Bool → Type 0
EqRgbAnswered a b t = t ≡ same_rgb a b

-- the same four bytes: the test for equal colours (proofs/Same)
unfoldable pub same_reduced : ReducedColor → ReducedColor → Bool
same_reduced a b = eqb a.0.r b.0.r && (eqb a.0.g b.0.g && (eqb a.0.b b.0.b && eqb a.0.a b.0.a))

-- colour i of a list of bytes, four a colour
unfoldable pub rgba_at : List ℕ → ℕ → Rgba8888
rgba_at bytes i = rgba (get_or bytes (4 * i) 0) (get_or bytes (4 * i + 1) 0) (get_or bytes (4 * i + 2) 0) (get_or bytes (4 * i + 3) 0)

abbrev pub reduced_at : List ℕ → ℕ → ReducedColor
reduced_at bytes i = record { 0 = rgba_at bytes i }

abbrev pub normalized_at : List ℕ → ℕ → NormalizedColor
normalized_at bytes i = record { 0 = rgba_at bytes i }

-- a colour's four bytes
abbrev pub bytes_of : Rgba8888 → List ℕ
bytes_of c = c.r ∷ c.g ∷ c.b ∷ c.a ∷ []
