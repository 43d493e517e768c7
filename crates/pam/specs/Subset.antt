-- Which byte lists are PAM files of the subset, and of which size and raster, said of the bytes alone: the file is the magic number, lines that newlines end,
-- and a raster; each line says one thing; and five things are said exactly once, in any order. Definitions only.
-- Written from the PAM document, "THE LAYOUT", and document 02, Ask 1. proofs/SubsetLaws: this is what specs/Header says, and a file has at most one size,
-- depth and raster.
use Rattle.std.specs.Prelude.{◌≡◌, ◌⊎◌, ℕ, not, List, [], ◌∷◌, ◌++◌}
use Rattle.lists.specs.Order.{All}
use Rattle.pam.specs.Text.{text, is_newline, is_white, is_digit, value_of}
use Rattle.pam.specs.declared.header.Field.{Field}
use Rattle.pam.specs.declared.header.Field.TheVariants.{Width, Height, Depth, Maxval, TupleType}

-- ---- a line

-- a line that says nothing: a comment, or white space alone
abbrev pub Idle : List ℕ → Type 0
Idle line = ((rest : List ℕ) × (line ≡ 35 ∷ rest)) ⊎ All is_white line

-- a line of one token, with white space around it or none
pub record Alone (token line : List ℕ) : Type 0 where
  pub before : List ℕ
  pub behind : List ℕ
  pub spaced : All is_white before × All is_white behind
  pub whole : line ≡ before ++ (token ++ behind)

-- a line of a name and a value, with white space between them, and around them or not
pub record Pair (name value line : List ℕ) : Type 0 where
  pub before : List ℕ
  pub between : List ℕ
  pub behind : List ℕ
  pub spaced : All is_white before × All is_white between × All is_white behind
  pub apart : between ≡ [] → ⊥
  pub whole : line ≡ before ++ (name ++ (between ++ (value ++ behind)))

-- one or more digits that give n
pub record Number (n : ℕ) (digits : List ℕ) : Type 0 where
  pub some : digits ≡ [] → ⊥
  pub each : All is_digit digits
  pub value : value_of digits ≡ n

-- a tuple type whose pixels have n samples
abbrev pub Samples : ℕ → List ℕ → Type 0
Samples n value = ((value ≡ text "RGB") × (n ≡ 3)) ⊎ ((value ≡ text "RGB_ALPHA") × (n ≡ 4))

-- a name's text
abbrev pub name_text : Field → List ℕ
name_text Width = text "WIDTH"
name_text Height = text "HEIGHT"
name_text Depth = text "DEPTH"
name_text Maxval = text "MAXVAL"
name_text TupleType = text "TUPLTYPE"

-- a value that gives a name the number n: digits, but for the tuple type
abbrev pub Worth : Field → ℕ → List ℕ → Type 0
Worth Width = Number
Worth Height = Number
Worth Depth = Number
Worth Maxval = Number
Worth TupleType = Samples

-- a line that gives a name the value n
pub record Gives (name : Field) (n : ℕ) (line : List ℕ) : Type 0 where
  pub value : List ℕ
  pub pair : Pair (name_text name) value line
  pub worth : Worth name n value

-- ---- lines

-- each line is so
abbrev pub Each : (List ℕ → Type 0) → List (List ℕ) → Type 0
Each P [] = Unit {0}
Each P (l ∷ ls) = P l × Each P ls

-- it says nothing, or gives one of the five names a value
abbrev pub Says : List ℕ → Type 0
Says line = Idle line ⊎ ((name : Field) × (n : ℕ) × Gives name n line)

-- no line gives the name a value
abbrev pub Silent : Field → List (List ℕ) → Type 0
Silent name lines = Each (λ l. (n : ℕ) → Gives name n l → ⊥) lines

-- exactly one of the lines gives the name a value, and that is n
pub record Once (name : Field) (n : ℕ) (lines : List (List ℕ)) : Type 0 where
  pub before : List (List ℕ)
  pub line : List ℕ
  pub behind : List (List ℕ)
  pub whole : lines ≡ before ++ (line ∷ behind)
  pub gives : Gives name n line
  pub others : Silent name before × Silent name behind

-- ---- a file

-- lines, each with the newline that ends it
abbrev pub joined : List (List ℕ) → List ℕ
joined [] = []
joined (l ∷ ls) = l ++ (10 ∷ joined ls)

-- a file of a header in the subset and a raster
pub record PamFile (file : List ℕ) (width height depth : ℕ) (raster : List ℕ) : Type 0 where
  pub lines : List (List ℕ)
  pub last : List ℕ
  pub whole : file ≡ text "P7\n" ++ (joined lines ++ (last ++ (10 ∷ raster)))
  pub lone : Each (All (λ b. not (is_newline b))) lines × All (λ b. not (is_newline b)) last
  pub says : Each Says lines
  pub ends : Alone (text "ENDHDR") last
  pub wide : Once Width width lines
  pub high : Once Height height lines
  pub deep : Once Depth depth lines
  pub most : Once Maxval 255 lines
  pub samples : Once TupleType depth lines
