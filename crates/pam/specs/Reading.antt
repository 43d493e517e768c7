-- What the reader's parts leave: numbers that are kept up to a bound, the five values so far and those of a header in the subset, and samples before alpha
-- is put behind them. Definitions only.
-- Written for document 02, Ask 1: a number of any length is read, and no number above the bound is one that the calls take.
use Rattle.std.specs.Prelude.{◌≡◌, ℕ, ◌+◌, ◌*◌, ◌≤◌, min, true, false, List, [], ◌∷◌, Option, None, Some, IsSome, map, get_or, slice_index_or, slice_set}
use Rattle.pam.specs.declared.Size.{Size}
use Rattle.pam.specs.declared.header.Field.{Field}
use Rattle.pam.specs.declared.header.Field.TheVariants.{Width, Height, Depth, Maxval, TupleType}
use Rattle.pam.specs.declared.header.HeaderLine.{HeaderLine}
use Rattle.pam.specs.declared.header.HeaderLine.TheVariants.{Ignored, Value, End, Wrong}
use Rattle.pam.specs.Lines.{lines_of}
use Rattle.pam.specs.Header.{place, ended, said, behind_end, values_of, any_wrong, header_wrong, width_of, height_of, depth_of, raster_of}

-- a number, or the bound where it is above: a million, which is neither a side nor a depth nor a MAXVAL of the subset
abbrev pub capped : ℕ → ℕ
capped n = min n 1000000

abbrev pub capped_line : HeaderLine → HeaderLine
capped_line Ignored = Ignored
capped_line (Value name n) = Value name (capped n)
capped_line End = End
capped_line Wrong = Wrong

-- the values of a name whose place holds v
abbrev pub given : Option ℕ → List ℕ
given None = []
given (Some v) = v ∷ []

-- what a place among the five values holds
abbrev pub held : Field → List (Option ℕ) → Option ℕ
held name values = slice_index_or values (place name) None

-- after a value of a name: it is in its place where that was empty, and else the values are as they were
abbrev pub Noted : List (Option ℕ) → Field → ℕ → Option (Unit {0}) → List (Option ℕ) → Type 0
Noted was name n None now = IsSome (held name was) × (now ≡ was)
Noted was name n (Some r) now = (held name was ≡ None) × (now ≡ slice_set was (place name) (Some n))

-- what lines that are a header's give: the five values, and the raster behind them
pub record LinesRead (bytes : List ℕ) (values : List (Option ℕ)) (raster : List ℕ) : Type 0 where
  pub ends : ended (lines_of bytes) ≡ true
  pub right : any_wrong (said (lines_of bytes)) ≡ false
  pub found : (name : Field) → map capped (values_of name (said (lines_of bytes))) ≡ given (held name values)
  pub behind : behind_end (lines_of bytes) ≡ raster

-- five values of a header in the subset: none is missing, MAXVAL is 255, and DEPTH what the tuple type has
abbrev pub Whole : List (Option ℕ) → Size → ℕ → Type 0
Whole values size depth =
    (held Width values ≡ Some size.width) × (held Height values ≡ Some size.height) × (held Depth values ≡ Some depth)
    × (held Maxval values ≡ Some 255) × (held TupleType values ≡ Some depth)

-- five values that are of none
abbrev pub Broken : List (Option ℕ) → Type 0
Broken values = (size : Size) (depth : ℕ) → Whole values size depth → ⊥

-- what the header of a file in the subset is read as
pub record HeaderRead (file : List ℕ) (size : Size) (depth : ℕ) (raster : List ℕ) : Type 0 where
  pub right : header_wrong file ≡ false
  pub wide : size.width ≡ capped (width_of file)
  pub high : size.height ≡ capped (height_of file)
  pub deep : depth ≡ depth_of file
  pub samples : (3 ≤ depth) × (depth ≤ 4)
  pub behind : raster_of file ≡ raster

-- four bytes of a raster of three samples a pixel, from pixel i's on: its samples, and the next pixel's red
unfoldable pub samples_at : List ℕ → ℕ → List ℕ
samples_at raster i = get_or raster (3 * i) 0 ∷ get_or raster (3 * i + 1) 0 ∷ get_or raster (3 * i + 2) 0 ∷ get_or raster (3 * i + 3) 0 ∷ []
