-- Normalising through the lent table: with reducing (the crate `reducing`) the only crossing between the two kinds of colour. Definitions only.
-- Written from document 01, "Which document decides": "Normalising sends all four bytes through the scale table."
use Rattle.std.specs.Prelude.{ℕ, List, get_or}
use Rattle.color.specs.declared.ReducedColor.{ReducedColor}
use Rattle.color.specs.declared.NormalizedColor.{NormalizedColor}
use Rattle.color.specs.Color.{rgba}

unfoldable pub normalize_color : List ℕ → ReducedColor → NormalizedColor
normalize_color scale c = record { 0 = rgba (get_or scale c.0.r 0) (get_or scale c.0.g 0) (get_or scale c.0.b 0) (get_or scale c.0.a 0) }
