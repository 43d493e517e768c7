-- What the code's steps need and promise: a choice among candidates, a pixel's place, and a diffused pixel with its cells. Definitions only.
-- Written from document 01, "Choosing colours" and "Diffusion runs row by row, left to right".
use Rattle.std.specs.Prelude.{ℕ, ◌+◌, ◌*◌, ◌≤◌, ◌<◌, ◌≡◌, Bool, true, false, cond, List, ℤ, Option, Some, None}
use Rattle.color.specs.declared.NormalizedColor.{NormalizedColor}
use Rattle.color.specs.Tables.{normalize_color}
use Rattle.patterns.specs.Kinds.{is_ordered, is_diffusion, kernel_of}
use Rattle.shortlist.specs.Candidates.{Candidates}
use Rattle.lookup.specs.declared.Choice.{Choice}
use Rattle.lookup.specs.Positions.{Takes}
use Rattle.remembered.specs.declared.Memory.{Memory}
use Rattle.remembered.specs.Table.{nearest_alone, TableOf}
use Rattle.remembered.specs.Shorts.{TableAndRows}
use Rattle.diffusion.specs.Biased.{biased_color}
use Rattle.diffusion.specs.Scatter.{sends, scatter}
use Rattle.diffusion.specs.Sends.{residuals_of}
use Rattle.color.specs.declared.ReducedColor.{ReducedColor}
use Rattle.drawing.specs.Lent.{is_zero}
use Rattle.drawing.specs.declared.Ditherer.{Ditherer}
use Rattle.drawing.specs.Drawing.{Drawing, nearest_color, picture_of, drawn}

-- what is kept by colour zero of a pixel with this reduced colour: the colour, where it has that one's rgb, and else none
abbrev pub KeepsZero : Option ReducedColor → ReducedColor → Option ReducedColor → Type 0
KeepsZero zero c (Some own) = (is_zero zero c ≡ true) × (own ≡ c)
KeepsZero zero c None = is_zero zero c ≡ false

-- pixel i is one of the picture's, and its column and row, counted from the origin, are numbers of 32 bits
pub record Inside (t : Ditherer) (i : ℕ) : Type 0 where
  pub inside : i < t.width * t.height
  pub wide : t.width ≤ 4096
  pub high : t.height ≤ 4096
  pub across : t.origin_x + t.width ≤ 4294967295
  pub down : t.origin_y + t.height ≤ 4294967295

-- pixel i of that colour, whose cells are among `was`: c is the nearest to its biased colour, and the cells are those after the biased colour's
-- residual is passed on
pub record Diffused (t : Ditherer) (cs : Candidates) (scale : List ℕ) (was : List ℤ) (i : ℕ) (color : NormalizedColor)
    (c : Choice) (cells : List ℤ) : Type 0 where
  pub choice : Takes cs (nearest_color cs (biased_color color was i)) c
  pub passed :
      cells ≡ sends was (residuals_of (biased_color color was i).0 (normalize_color scale c.color).0) (kernel_of t.kind) t.width t.height i

-- the cells when pixel i's turn comes, under a diffusion kind
unfoldable pub cells_before : Drawing → ℕ → List ℤ
cells_before d i = scatter (kernel_of d.kind) (picture_of d (drawn d)) i

-- the cells before pixel i's turn: for a diffusion kind those, and otherwise what was lent
unfoldable pub cells_by : Drawing → List ℤ → ℕ → List ℤ
cells_by d was i = cond (is_diffusion d.kind) (cells_before d i) was

-- what is remembered: for an ordered kind pairs and shortlists, for the others the nearest
abbrev pub RemembersNearest : Candidates → Memory → Type 0
RemembersNearest cs memory = TableOf (nearest_alone cs.oklab cs.count) memory

abbrev pub RemembersBy : Bool → Candidates → ℕ → Memory → Type 0
RemembersBy true cs width memory = TableAndRows cs width memory
RemembersBy false cs width memory = RemembersNearest cs memory

abbrev pub Remembers : Ditherer → Candidates → Memory → Type 0
Remembers t cs memory = RemembersBy (is_ordered t.kind) cs t.bracket_width memory
