-- What a PAM header says: what each of its lines says, and whether it is a header of the subset. Definitions only.
-- Written from the PAM document, "THE LAYOUT", and from document 02, Ask 1: "MAXVAL 255, DEPTH 4 with RGB_ALPHA or DEPTH 3 with RGB", "header lines in
-- whatever order that document allows". What the PAM document leaves open is decided in docs/DECISIONS.md.
use Rattle.std.specs.Prelude.{ℕ, Bool, true, false, cond, not, ◌||◌, List, [], ◌∷◌, ◌++◌, eqb, take, drop}
use Rattle.pam.specs.Text.{text, same_text, is_number, value_of}
use Rattle.pam.specs.Lines.{Line, lines_of, tokens}
use Rattle.pam.specs.declared.header.Field.{Field}
use Rattle.pam.specs.declared.header.Field.TheVariants.{Width, Height, Depth, Maxval, TupleType}
use Rattle.pam.specs.declared.header.HeaderLine.{HeaderLine}
use Rattle.pam.specs.declared.header.HeaderLine.TheVariants.{Ignored, Value, End, Wrong}

-- ---- what a line says: nothing, a value for one of five names, that the header ends; or it is wrong

-- a name's place among the five
abbrev pub place : Field → ℕ
place Width = 0
place Height = 1
place Depth = 2
place Maxval = 3
place TupleType = 4

-- "The second token is a decimal number"
unfoldable pub number_line : Field → List ℕ → HeaderLine
number_line name value = cond (is_number value) (Value name (value_of value)) Wrong

-- a tuple type of the subset, as the number of its samples
unfoldable pub type_line : List ℕ → HeaderLine
type_line value =
    cond (same_text value (text "RGB")) (Value TupleType 3) (cond (same_text value (text "RGB_ALPHA")) (Value TupleType 4) Wrong)

-- "The type of header line is identified by its first token". RGB and RGB_ALPHA have no white space in them, so a tuple type of the subset, which is the
-- rest of the line without white space around it, is the second token and the last (proofs/PairLaws, `two_tokens`, `pair_tokens`)
unfoldable pub field_line : (name value : List ℕ) → HeaderLine
field_line name value =
    cond (same_text name (text "WIDTH")) (number_line Width value)
    (cond (same_text name (text "HEIGHT")) (number_line Height value)
    (cond (same_text name (text "DEPTH")) (number_line Depth value)
    (cond (same_text name (text "MAXVAL")) (number_line Maxval value)
    (cond (same_text name (text "TUPLTYPE")) (type_line value) Wrong))))

-- "A header line which has zero tokens is valid but has no meaning"; ENDHDR stands alone; the others have one value
unfoldable pub tokens_line : List (List ℕ) → HeaderLine
tokens_line [] = Ignored
tokens_line (name ∷ []) = cond (same_text name (text "ENDHDR")) End Wrong
tokens_line (name ∷ value ∷ []) = field_line name value
tokens_line (name ∷ value ∷ more ∷ others) = Wrong

-- "If it begins with # it is a comment"
unfoldable pub header_line : List ℕ → HeaderLine
header_line [] = Ignored
header_line (b ∷ bs) = cond (eqb b 35) Ignored (tokens_line (tokens (b ∷ bs)))

-- ---- the lines of a header: those up to the first that ends it

abbrev pub is_end : HeaderLine → Bool
is_end Ignored = false
is_end (Value name n) = false
is_end End = true
is_end Wrong = false

-- one of the lines ends the header
unfoldable pub ended : List Line → Bool
ended [] = false
ended (l ∷ ls) = cond (is_end (header_line l.bytes)) true (ended ls)

-- what the lines before that say
unfoldable pub said : List Line → List HeaderLine
said [] = []
said (l ∷ ls) = cond (is_end (header_line l.bytes)) [] (header_line l.bytes ∷ said ls)

-- the bytes behind that line
unfoldable pub behind_end : List Line → List ℕ
behind_end [] = []
behind_end (l ∷ ls) = cond (is_end (header_line l.bytes)) l.behind (behind_end ls)

-- ---- the values

-- some line is wrong
abbrev pub is_wrong : HeaderLine → Bool
is_wrong Ignored = false
is_wrong (Value name n) = false
is_wrong End = false
is_wrong Wrong = true

unfoldable pub any_wrong : List HeaderLine → Bool
any_wrong [] = false
any_wrong (x ∷ xs) = is_wrong x || any_wrong xs

-- all values that a name is given, in order
abbrev pub values_in : Field → HeaderLine → List ℕ
values_in name Ignored = []
values_in name (Value given n) = cond (eqb (place given) (place name)) (n ∷ []) []
values_in name End = []
values_in name Wrong = []

unfoldable pub values_of : Field → List HeaderLine → List ℕ
values_of name [] = []
values_of name (x ∷ xs) = values_in name x ++ values_of name xs

-- exactly one value, and that value
abbrev pub is_one : List ℕ → Bool
is_one [] = false
is_one (n ∷ []) = true
is_one (n ∷ m ∷ more) = false

abbrev pub the_one : List ℕ → ℕ
the_one [] = 0
the_one (n ∷ more) = n

-- "The header must contain exactly one of these header lines", and one TUPLTYPE
unfoldable pub not_once : List HeaderLine → Bool
not_once xs =
    not (is_one (values_of Width xs))
    || (not (is_one (values_of Height xs))
    || (not (is_one (values_of Depth xs)) || (not (is_one (values_of Maxval xs)) || not (is_one (values_of TupleType xs)))))

-- ---- a file

-- "The header begins with the ASCII characters P7 followed by newline"
unfoldable pub magic : List ℕ → Bool
magic file = same_text (take 3 file) (text "P7\n")

-- the lines behind the magic number, and what the header's say
abbrev pub lines_in : List ℕ → List Line
lines_in file = lines_of (drop 3 file)

abbrev pub said_in : List ℕ → List HeaderLine
said_in file = said (lines_in file)

-- the value of a name
abbrev pub value_in : Field → List ℕ → ℕ
value_in name file = the_one (values_of name (said_in file))

-- the lines are not those of a header: none ends it, one is wrong, or a name has no value or more than one
unfoldable pub lines_wrong : List Line → Bool
lines_wrong ls = not (ended ls) || (any_wrong (said ls) || not_once (said ls))

-- the header is outside the subset: also where MAXVAL is another than 255, or DEPTH another than its tuple type has
unfoldable pub header_wrong : List ℕ → Bool
header_wrong file =
    not (magic file) || (lines_wrong (lines_in file) || (not (eqb (value_in Maxval file) 255) || not (eqb (value_in Depth file) (value_in TupleType file))))

-- size, depth and raster: "Each PAM image consists of a header followed immediately by a raster"
abbrev pub width_of : List ℕ → ℕ
width_of file = value_in Width file

abbrev pub height_of : List ℕ → ℕ
height_of file = value_in Height file

abbrev pub depth_of : List ℕ → ℕ
depth_of file = value_in Depth file

abbrev pub raster_of : List ℕ → List ℕ
raster_of file = behind_end (lines_in file)
