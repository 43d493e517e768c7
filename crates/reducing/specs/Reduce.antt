-- How a colour reduces, and which reduction goes with which shift. Definitions only.
-- Written from document 01, "Which document decides": "A pixel with alpha below 128 reduces to transparent; otherwise each of r, g, b goes through the
-- reduction table and alpha is 255"; and from document 02, Ask 5: "take `luma_u8` of that pixel, [..] and reduce it to all three channels; Sms reduces its
-- channels directly. In these modes every pixel counts as opaque", and "by alpha (shift 3, 4, 5), grey (5, 6) or opaque colour (6)".
use Rattle.std.specs.Prelude.{◌≡◌, ℕ, ◌<◌, Bool, true, false, cond, ◌||◌, List, ltb, eqb, get_or, Result, MatchResult}
use Rattle.replies.specs.declared.Refusal.{Refusal}
use Rattle.replies.specs.declared.Refusal.TheVariants.{KindOrShift}
use Rattle.color.specs.declared.NormalizedColor.{NormalizedColor}
use Rattle.color.specs.declared.ReducedColor.{ReducedColor}
use Rattle.color.specs.Color.{rgba, transparent_reduced}
use Rattle.reducing.specs.declared.Reducing.{Reducing}
use Rattle.reducing.specs.declared.Reducing.TheVariants.{ByAlpha, Grey, OpaqueColor}
use Rattle.reducing.specs.Luma.{luma_u8}

-- the number by which C names a reduction
abbrev pub reducing_number : Reducing → ℕ
reducing_number ByAlpha = 0
reducing_number Grey = 1
reducing_number OpaqueColor = 2

-- r is the reduction with number n, or the refusal of a number that none has
abbrev pub Numbered : ℕ → Result Reducing Refusal → Type 0
Numbered n r = MatchResult r (λ by. reducing_number by ≡ n) (λ e. (2 < n) × (e ≡ KindOrShift))

-- the pairings that there are
unfoldable pub is_pairing : Reducing → (shift : ℕ) → Bool
is_pairing ByAlpha shift = eqb shift 3 || (eqb shift 4 || eqb shift 5)
is_pairing Grey shift = eqb shift 5 || eqb shift 6
is_pairing OpaqueColor shift = eqb shift 6

-- a channel through the reduction table
abbrev pub through : List ℕ → ℕ → ℕ
through reduction v = get_or reduction v 0

-- three channels through it, and alpha 255
abbrev pub solid : List ℕ → (r g b : ℕ) → ReducedColor
solid reduction r g b = record { 0 = rgba (through reduction r) (through reduction g) (through reduction b) 255 }

-- transparent where alpha is below 128, else the colour's own channels
unfoldable pub by_alpha : List ℕ → NormalizedColor → ReducedColor
by_alpha reduction c = cond (ltb c.0.a 128) transparent_reduced (solid reduction c.0.r c.0.g c.0.b)

-- a colour reduced: the one definition. For grey and for an opaque colour its alpha plays no part
unfoldable pub reduce_color : Reducing → List ℕ → NormalizedColor → ReducedColor
reduce_color ByAlpha reduction c = by_alpha reduction c
reduce_color Grey reduction c = solid reduction (luma_u8 c) (luma_u8 c) (luma_u8 c)
reduce_color OpaqueColor reduction c = solid reduction c.0.r c.0.g c.0.b

-- ---- what the code asks without reducing (proofs/ReduceLaws)

-- the least alpha of what does not reduce to transparent
abbrev pub least_alpha : Reducing → ℕ
least_alpha ByAlpha = 128
least_alpha Grey = 0
least_alpha OpaqueColor = 0

-- its own channels go through the table
abbrev pub keeps_channels : Reducing → Bool
keeps_channels ByAlpha = true
keeps_channels Grey = false
keeps_channels OpaqueColor = true
