-- Colours as numbers of 32 bits. Definitions only.
-- Written for document 01's "different chosen reduced colours": two numbers are equal exactly if their colours are (proofs/KeyLaws).
use Rattle.std.specs.Prelude.{ℕ, ◌/◌, ◌%◌}
use Rattle.color.specs.declared.ReducedColor.{ReducedColor}
use Rattle.color.specs.Color.{rgba}

-- the colour that has a number as its key: red is the lowest byte
unfoldable pub color_with_key : ℕ → ReducedColor
color_with_key k = record { 0 = rgba (k % 256) (k / 256 % 256) (k / 256 / 256 % 256) (k / 256 / 256 / 256) }
