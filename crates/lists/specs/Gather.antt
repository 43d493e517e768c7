-- Lists that are made of pieces of one size, one piece for each position. Definitions only.
-- Written for document 01's lent buffers, "Bounds and replies": so many bytes or floats a pixel, an entry or a place.
use Rattle.std.specs.Prelude.{ℕ, zero, suc, ◌*◌, List, [], ◌++◌, drop}

-- the pieces of positions 0 to n - 1, in order
unfoldable pub gather : {A : Type 0} → ℕ → (ℕ → List A) → List A
gather zero piece = []
gather (suc n) piece = gather n piece ++ piece n

-- d with its first n pieces, of k elements each, in place, and after them what was there
abbrev pub filled : {A : Type 0} → ℕ → ℕ → (ℕ → List A) → List A → List A
filled k n piece d = gather n piece ++ drop (k * n) d
