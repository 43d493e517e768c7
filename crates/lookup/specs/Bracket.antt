-- The bracket of a colour, and what is picked of it. Definitions only.
-- Written from document 01, "Choosing colours": "Bracket: if the second's lightness is at least `a`'s, dark is `a` and ratio is the clamped `lerp`;
-- otherwise dark is the second and ratio is 1 minus it. Light is picked if the two reduced colours differ and ratio exceeds the threshold."; and document
-- 02, Ask 4: "`nearest`, `nearest_two` and the bracket should answer with the taken records' positions besides the colours."
use Rattle.std.specs.Prelude.{ℕ, Option, Some, None, Bool, true, cond, not, ◌&&◌, Float}
use Rattle.std.specs.Float.{binary32}
use Rattle.std.specs.Float.Ieee.{le, lt, sub}
use Rattle.floats.specs.Bytes.{zero_f, one_f}
use Rattle.color.specs.declared.ReducedColor.{ReducedColor}
use Rattle.color.specs.declared.NormalizedColor.{NormalizedColor}
use Rattle.color.specs.declared.Oklab.{Oklab}
use Rattle.color.specs.Color.{same_reduced}
use Rattle.mixing.specs.Lerp.{lerp_of}
use Rattle.shortlist.specs.Candidates.{Candidates}
use Rattle.lookup.specs.Second.{nearest_two_of}
use Rattle.lookup.specs.declared.BracketAt.{BracketAt}
use Rattle.lookup.specs.declared.Bracket.{Bracket}
use Rattle.lookup.specs.declared.Choice.{Choice}

-- entries a and b, whose normalised colours are c1 and c2, as a bracket for c
unfoldable pub bracket_with : (ℕ → Oklab) → ℕ → ℕ → NormalizedColor → NormalizedColor → NormalizedColor → BracketAt
bracket_with oklab a b c1 c2 c =
    cond (le (oklab a).l (oklab b).l)
    (record { dark = a; light = b; ratio = lerp_of c1 c2 c true })
    (record { dark = b; light = a; ratio = sub binary32 one_f (lerp_of c1 c2 c true) })

-- one entry alone: dark and light are the same
abbrev pub solid_at : ℕ → BracketAt
solid_at a = record { dark = a; light = a; ratio = zero_f }

-- entry a, and the second if there is one
abbrev pub bracket_two : (ℕ → Oklab) → (ℕ → NormalizedColor) → NormalizedColor → ℕ → Option ℕ → BracketAt
bracket_two oklab normalized c a None = solid_at a
bracket_two oklab normalized c a (Some b) = bracket_with oklab a b (normalized a) (normalized b) c

-- the positions and the ratio, for a colour c that is o in Oklab
unfoldable pub bracket_at_of : Candidates → ℕ → Oklab → NormalizedColor → BracketAt
bracket_at_of cs width o c = bracket_two cs.oklab cs.normalized c (nearest_two_of cs width o c).first (nearest_two_of cs width o c).second

-- with the colours of the positions
unfoldable pub colored : (ℕ → ReducedColor) → BracketAt → Bracket
colored reduced at = record {
  dark = reduced at.dark;
  light = reduced at.light;
  ratio = at.ratio;
  dark_position = at.dark;
  light_position = at.light;
}

abbrev pub bracket_of : Candidates → ℕ → Oklab → NormalizedColor → Bracket
bracket_of cs width o c = colored cs.reduced (bracket_at_of cs width o c)

-- whether light is picked: the two differ and its ratio exceeds the threshold; a NaN exceeds nothing
abbrev pub is_light : Bracket → Float → Bool
is_light b threshold = not (same_reduced b.dark b.light) && lt threshold b.ratio

-- the colour that is picked, its position, and both
unfoldable pub pick_at : Bracket → Float → ReducedColor
pick_at b threshold = cond (is_light b threshold) b.light b.dark

unfoldable pub position_at : Bracket → Float → ℕ
position_at b threshold = cond (is_light b threshold) b.light_position b.dark_position

abbrev pub choice_at : Bracket → Float → Choice
choice_at b threshold = record { color = pick_at b threshold; position = position_at b threshold }
