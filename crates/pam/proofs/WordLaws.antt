-- What a line says by its first byte; and how many samples a tuple type has. Assumes nothing.
use mathlib.Core.Path.{◌≡◌, refl, sym}
use mathlib.Core.Bool.{Bool, true, false, cond}
use mathlib.Core.List.{List, [], ◌∷◌}
use Prim.Native.Nat.{ℕ, ◌≤◌}
use native.Mathlib.Omega.{arith}
use borrow.Author.Tests.{eqb-true, eq-eqb, ne_eqb}
use lib.Dec.{eqb}
use Rattle.std.specs.List.{starts_with}
use Rattle.lists.proofs.Bools.{and_split, clash}
use Rattle.pam.specs.Text.{text, same_text, is_number, value_of}
use Rattle.pam.specs.Lines.{tokens}
use Rattle.pam.specs.Header.{number_line, type_line, field_line, tokens_line, header_line}
use Rattle.pam.specs.declared.header.Field.{Field}
use Rattle.pam.specs.declared.header.Field.TheVariants.{Width, Height, Depth, Maxval, TupleType}
use Rattle.pam.specs.declared.header.HeaderLine.{HeaderLine}
use Rattle.pam.specs.declared.header.HeaderLine.TheVariants.{Ignored, Value, End, Wrong}

-- a line by its first byte
pub comment_line : (line : List ℕ) → starts_with eqb line (35 ∷ []) ≡ true → header_line line ≡ Ignored
unfolding header_line
comment_line [] e = cc
comment_line (b ∷ bs) e = rw (eq-eqb b 35 (sym (eqb-true 35 b (and_split (eqb 35 b) true e).0)))

pub other_line : (line : List ℕ) → starts_with eqb line (35 ∷ []) ≡ false → header_line line ≡ tokens_line (tokens line)
unfolding header_line tokens tokens_line
other_line [] e = refl
other_line (b ∷ bs) e = rw (ne_eqb b 35 (λ q. clash (rw (eq-eqb 35 b (sym q))) e))

-- ---- a tuple type has three samples or four

abbrev pub Sampled : Field → ℕ → Type 0
Sampled Width n = Unit {0}
Sampled Height n = Unit {0}
Sampled Depth n = Unit {0}
Sampled Maxval n = Unit {0}
Sampled TupleType n = (3 ≤ n) × (n ≤ 4)

abbrev pub SampledLine : HeaderLine → Type 0
SampledLine Ignored = Unit {0}
SampledLine (Value name n) = Sampled name n
SampledLine End = Unit {0}
SampledLine Wrong = Unit {0}

choose : (t : Bool) (x y : HeaderLine) → SampledLine x → SampledLine y → SampledLine (cond t x y)
choose true x y p q = p
choose false x y p q = q

number_sampled : (name : Field) (value : List ℕ) → Sampled name (value_of value) → SampledLine (number_line name value)
unfolding number_line
number_sampled name value h = choose (is_number value) (Value name (value_of value)) Wrong h tt

type_sampled : (value : List ℕ) → SampledLine (type_line value)
unfolding type_line
type_sampled value =
    choose (same_text value (text "RGB")) (Value TupleType 3) _ (omega arith, omega arith)
    (choose (same_text value (text "RGB_ALPHA")) (Value TupleType 4) Wrong (omega arith, omega arith) tt)

field_sampled : (name value : List ℕ) → SampledLine (field_line name value)
unfolding field_line
field_sampled name value =
    choose (same_text name (text "WIDTH")) (number_line Width value) _ (number_sampled Width value tt)
    (choose (same_text name (text "HEIGHT")) (number_line Height value) _ (number_sampled Height value tt)
    (choose (same_text name (text "DEPTH")) (number_line Depth value) _ (number_sampled Depth value tt)
    (choose (same_text name (text "MAXVAL")) (number_line Maxval value) _ (number_sampled Maxval value tt)
    (choose (same_text name (text "TUPLTYPE")) (type_line value) Wrong (type_sampled value) tt))))

tokens_sampled : (ts : List (List ℕ)) → SampledLine (tokens_line ts)
unfolding tokens_line
tokens_sampled [] = tt
tokens_sampled (name ∷ []) = choose (same_text name (text "ENDHDR")) End Wrong tt tt
tokens_sampled (name ∷ value ∷ []) = field_sampled name value
tokens_sampled (name ∷ value ∷ third ∷ others) = tt

pub line_sampled : (line : List ℕ) → SampledLine (header_line line)
unfolding header_line
line_sampled [] = tt
line_sampled (b ∷ bs) = choose (eqb b 35) Ignored (tokens_line (tokens (b ∷ bs))) tt (tokens_sampled (tokens (b ∷ bs)))
