-- Which candidates a drawn picture's pixels took, as positions. Definitions only.
-- Written from document 02, Ask 4: "For a picture's index the position is the first entry equal to the chosen reduced colour", and document 01, "Choosing
-- colours": "Transparent pixels get index 0".
use Rattle.std.specs.Prelude.{ℕ, ◌*◌, ◌≤◌, ◌<◌, ◌≡◌, cond, List, [], ◌∷◌, length}
use Rattle.lists.specs.Gather.{gather}
use Rattle.lookup.specs.declared.Choice.{Choice}
use Rattle.lookup.specs.Positions.{Alike, first_equal}
use Rattle.drawing.specs.Drawing.{Drawing, drawn}

-- pixel i's position: the first candidate equal to its choice; 0 for a skipped pixel
unfoldable pub position_of : Drawing → ℕ → ℕ
position_of d i = cond (d.skipped i) 0 (first_equal d.candidates (drawn d i))

-- all of them, a byte a pixel
unfoldable pub position_bytes : Drawing → List ℕ
position_bytes d = gather (d.width * d.height) (λ i. position_of d i ∷ [])

-- ---- what the code's steps promise of them

-- pixel i's choice, which is a byte where there are at most 256; where twins are alike, it is pixel i's position
pub record TakesAt (d : Drawing) (i : ℕ) (r : Choice) : Type 0 where
  pub color : r.color ≡ drawn d i
  pub small : d.candidates.count ≤ 256 → r.position < 256
  pub position : Alike d.candidates → r.position ≡ position_of d i

-- a room for positions: the picture's are in it, where twins are alike, a position is a byte, and there is a byte for each pixel
abbrev pub PositionsAfter : Drawing → (was left : List ℕ) → Type 0
PositionsAfter d was left = Alike d.candidates → d.candidates.count ≤ 256 → length was ≡ d.width * d.height → left ≡ position_bytes d
