-- Bytes as text: the bytes of a written text, which bytes are white space and digits, and the number that digits give. Definitions only.
-- Written from the PAM document (manual page pam of netpbm), "THE LAYOUT": "ASCII characters", "whitespace-delimited", "a decimal number"; which bytes are
-- white space is decided in docs/DECISIONS.md.
use Rattle.std.specs.Prelude.{ℕ, ◌+◌, ◌*◌, ◌-◌, Bool, not, ◌||◌, ◌&&◌, List, [], ◌∷◌, eqb, leb, length}
use Rattle.std.specs.Cmp.Lexicographic.{pointwise}
use Rattle.std.specs.List.{list_all}
use Prim.Native.Char.{code}
use Prim.Native.String.{String, [] as empty, ◌∷◌ as ◌before◌}

-- the bytes of an ASCII text
abbrev pub text : String → List ℕ
text empty = []
text (c before s) = code c ∷ text s

-- two lists of bytes are the same
abbrev pub same_text : List ℕ → List ℕ → Bool
same_text = pointwise eqb

-- the character that ends a line
unfoldable pub is_newline : ℕ → Bool
is_newline b = eqb b 10

-- white space within a line: tab, vertical tab, form feed, carriage return and blank
unfoldable pub is_white : ℕ → Bool
is_white b = eqb b 9 || (eqb b 11 || (eqb b 12 || (eqb b 13 || eqb b 32)))

-- a decimal digit
unfoldable pub is_digit : ℕ → Bool
is_digit b = leb 48 b && leb b 57

-- one or more digits and nothing else
unfoldable pub is_number : List ℕ → Bool
is_number bs = not (eqb (length bs) 0) && list_all is_digit bs

-- the number that decimal digits give, behind those that gave n; however many there are
unfoldable pub value_from : ℕ → List ℕ → ℕ
value_from n [] = n
value_from n (d ∷ ds) = value_from (10 * n + (d - 48)) ds

abbrev pub value_of : List ℕ → ℕ
value_of ds = value_from 0 ds
