-- The Oklab colours of a list of reduced colours. Definitions only.
-- Written from document 01, "Bounds and replies": "Candidate places 0..65,536, four bytes each, with three f32 each beside them", and "the candidate
-- rooms hold the list (counted in the answer) and its Oklab"; a palette's entries are such a list, too. Conversion takes a colour's full precision form.
use Rattle.std.specs.Prelude.{ℕ, List, Float}
use Rattle.color.specs.declared.ReducedColor.{ReducedColor}
use Rattle.color.specs.Tables.{normalize_color}
use Rattle.color.specs.Oklab.{floats_of}
use Rattle.lists.specs.Gather.{gather, filled}
use Rattle.conversion.specs.Oklab.{to_oklab}

-- the three floats of colour k, by its full precision form
abbrev pub oklab_floats : List ℕ → (ℕ → ReducedColor) → ℕ → List Float
oklab_floats scale reduced k = floats_of (to_oklab (normalize_color scale (reduced k)))

-- those of the first n colours
abbrev pub list_oklab : List ℕ → (ℕ → ReducedColor) → ℕ → List Float
list_oklab scale reduced n = gather n (oklab_floats scale reduced)

-- a buffer with these in its front, and after them what was there
abbrev pub oklab_over : List ℕ → (ℕ → ReducedColor) → ℕ → List Float → List Float
oklab_over scale reduced n was = filled 3 n (oklab_floats scale reduced) was
