-- The candidates that a lookup chooses from, as functions of the position: flat lists and lists of records are asked alike. Definitions only.
-- Written from document 01, "Modules": "`CandidateColor`", and "Bounds and replies": four bytes each, with three f32 each beside them.
use Rattle.std.specs.Prelude.{ℕ, ◌*◌, ◌/◌, ◌≤◌, ◌<◌, List, T, length, Float}
use Rattle.color.specs.declared.ReducedColor.{ReducedColor}
use Rattle.color.specs.declared.NormalizedColor.{NormalizedColor}
use Rattle.color.specs.declared.Oklab.{Oklab}
use Rattle.color.specs.Color.{reduced_at, normalized_at}
use Rattle.color.specs.Tables.{normalize_color}
use Rattle.color.specs.Oklab.{all_in_range, oklab_at}

pub record Candidates : Type 0 where
  pub count : ℕ
  pub reduced : ℕ → ReducedColor
  pub normalized : ℕ → NormalizedColor
  pub oklab : ℕ → Oklab

-- colour k of a list of reduced bytes, through the scale table
abbrev pub normals : List ℕ → List ℕ → ℕ → NormalizedColor
normals colors scale k = normalize_color scale (reduced_at colors k)

-- n colours of flat lists, normalised by the scale table: the candidates of a picture
abbrev pub scaled : List ℕ → List ℕ → List Float → ℕ → Candidates
scaled colors scale oklab n = record { count = n; reduced = reduced_at colors; normalized = normals colors scale; oklab = oklab_at oklab }

-- flat lists that carry their own normalised bytes: one entry for each four bytes
abbrev pub flat : List ℕ → List ℕ → List Float → Candidates
flat reduced normalized oklab = record { count = length reduced / 4; reduced = reduced_at reduced; normalized = normalized_at normalized; oklab = oklab_at oklab }

-- a list of floats that has n Oklab colours, each component from -2 to 2
pub record RangedList (oklab : List Float) (n : ℕ) : Type 0 where
  pub long : 3 * n ≤ length oklab
  pub range : (k : ℕ) → k < n → T (all_in_range (oklab_at oklab k))
