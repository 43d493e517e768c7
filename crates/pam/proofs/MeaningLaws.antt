-- What a header line says, of its bytes: `header_line` gives each line the one meaning that it has (`line_means`, `means_only`). So a line is idle, gives one
-- name one value, ends the header, or is wrong, and only one of these. Assumes nothing.
use mathlib.Core.Path.{◌≡◌, refl, sym, ap, ◌∙◌, subst}
use mathlib.Core.Logic.{inl, inr}
use Prim.Native.Nat.{ℕ}
use borrow.Author.Tests.{eqb-true, ne_eqb}
use mathlib.Core.Bool.{Bool, true, false, cond}
use mathlib.Core.List.{List, [], ◌∷◌, ◌++◌}
use lib.Dec.{T, eqb}
use lib.ListN.{get_or}
use Rattle.lists.specs.Order.{All}
use Rattle.lists.proofs.Bools.{clash}
use Rattle.pam.specs.Text.{text, same_text, is_white, is_number, value_of}
use Rattle.pam.specs.Lines.{tokens}
use Rattle.pam.specs.declared.header.HeaderLine.{HeaderLine}
use Rattle.pam.specs.declared.header.HeaderLine.TheVariants.{Ignored, Value, End, Wrong}
use Rattle.pam.specs.declared.header.Field.{Field}
use Rattle.pam.specs.declared.header.Field.TheVariants.{Width, Height, Depth, Maxval, TupleType}
use Rattle.pam.specs.Header.{number_line, type_line, field_line, tokens_line, header_line, is_wrong}
use Rattle.pam.specs.Subset.{Idle, Alone, Pair, Number, Samples, name_text, Worth, Gives, Says}
use Rattle.pam.proofs.TextLaws.{same_text→eq}
use Rattle.pam.proofs.TokenLaws.{is_ink}
use Rattle.pam.proofs.PairLaws.{Token, no_token, one_token, two_tokens, white_tokens, alone_tokens, pair_tokens, cons_some}
use Rattle.pam.proofs.NumberLaws.{number_is, number_only, number_token, samples_token, name_token, name_plain, all_of}

-- ---- what the bytes are, for each that `header_line` gives
abbrev Found : List ℕ → HeaderLine → Type 0
Found line Ignored = Idle line
Found line (Value name n) = Gives name n line
Found line End = Alone (text "ENDHDR") line
Found line Wrong = Unit {0}

one_of : (line : List ℕ) (t : Bool) (x y : HeaderLine) → (t ≡ true → Found line x) → Found line y → Found line (cond t x y)
one_of line true x y f g = f refl
one_of line false x y f g = g

number_found : (name : Field) (value line : List ℕ) → ((n : ℕ) → Number n value → Worth name n value) → Pair (name_text name) value line
    → Found line (number_line name value)
unfolding number_line
number_found name value line h p =
    one_of line (is_number value) _ _ (λ e. record { value = value; pair = p; worth = h (value_of value) (number_is value e) }) tt

type_found : (value line : List ℕ) → Pair (name_text TupleType) value line → Found line (type_line value)
unfolding type_line
type_found value line p =
    one_of line (same_text value (text "RGB")) _ _ (λ e. giving 3 (inl (same_text→eq value (text "RGB") e, refl)))
    (one_of line (same_text value (text "RGB_ALPHA")) _ _ (λ e. giving 4 (inr (same_text→eq value (text "RGB_ALPHA") e, refl))) tt)
  where
    giving : (n : ℕ) → Samples n value → Gives TupleType n line
    giving n s = record { value = value; pair = p; worth = s }

field_found : (name value line : List ℕ) → Pair name value line → Found line (field_line name value)
unfolding field_line
field_found name value line p =
    one_of line (same_text name (text "WIDTH")) _ _ (λ e. number_found Width value line (λ n h. h) (named e))
    (one_of line (same_text name (text "HEIGHT")) _ _ (λ e. number_found Height value line (λ n h. h) (named e))
    (one_of line (same_text name (text "DEPTH")) _ _ (λ e. number_found Depth value line (λ n h. h) (named e))
    (one_of line (same_text name (text "MAXVAL")) _ _ (λ e. number_found Maxval value line (λ n h. h) (named e))
    (one_of line (same_text name (text "TUPLTYPE")) _ _ (λ e. type_found value line (named e)) tt))))
  where
    named : {t : List ℕ} → same_text name t ≡ true → Pair t value line
    named {t} e = subst (λ (u : List ℕ). Pair u value line) (same_text→eq name t e) p

tokens_found : (line : List ℕ) (ts : List (List ℕ)) → tokens line ≡ ts → Found line (tokens_line ts)
unfolding tokens_line
tokens_found line [] e = inr (no_token line e)
tokens_found line (name ∷ []) e =
    one_of line (same_text name (text "ENDHDR")) _ _
    (λ q. subst (λ (t : List ℕ). Alone t line) (same_text→eq name (text "ENDHDR") q) (one_token line name e).1) tt
tokens_found line (name ∷ value ∷ []) e = field_found name value line (two_tokens line name value e).2
tokens_found line (name ∷ value ∷ more ∷ others) e = tt

found : (line : List ℕ) → Found line (header_line line)
unfolding header_line
found [] = inr tt
found (b ∷ bs) =
    one_of (b ∷ bs) (eqb b 35) _ _ (λ e. inl (bs, ap (λ (x : ℕ). x ∷ bs) (eqb-true b 35 e))) (tokens_found (b ∷ bs) (tokens (b ∷ bs)) refl)

-- ---- and back: what `header_line` gives, of the bytes

-- white space and then a token that does not begin with #: no comment
white_plain : (b : ℕ) → T (is_white b) → eqb b 35 ≡ false
unfolding is_white
white_plain b h = ne_eqb b 35 (λ e. subst (λ (x : ℕ). T (is_white x)) e h)

plain : (before name rest : List ℕ) → All is_white before → eqb (get_or name 0 35) 35 ≡ false
    → header_line (before ++ (name ++ rest)) ≡ tokens_line (tokens (before ++ (name ++ rest)))
unfolding header_line
plain [] [] rest w f = absurd (clash refl f)
plain [] (c ∷ cs) rest w f = rw f
plain (b ∷ before) name rest w f = rw (white_plain b w.0)

white_line : (line : List ℕ) → All is_white line → header_line line ≡ Ignored
unfolding header_line tokens_line
white_line [] a = refl
white_line (b ∷ bs) a = rw (white_plain b a.0, white_tokens (b ∷ bs) a)

pub idle_only : (line : List ℕ) → Idle line → header_line line ≡ Ignored
unfolding header_line
idle_only line (inl (rest, e)) = ap header_line e
idle_only line (inr a) = white_line line a

pub end_only : (line : List ℕ) → Alone (text "ENDHDR") line → header_line line ≡ End
unfolding header_line tokens_line is_white
end_only line a =
    let k : Token (text "ENDHDR") = (cons_some, all_of is_ink (text "ENDHDR") tt) in
    ap header_line a.whole ∙ plain a.before (text "ENDHDR") a.behind a.spaced.0 refl
    ∙ ap (λ (l : List ℕ). tokens_line (tokens l)) (sym a.whole) ∙ ap tokens_line (alone_tokens k a)

number_line_lem : (name : Field) (n : ℕ) (value : List ℕ) → Number n value → number_line name value ≡ Value name n
unfolding number_line
number_line_lem name n value h = rw (number_only value h) (ap (Value name) h.value)

type_line_lem : (n : ℕ) (value : List ℕ) → Samples n value → type_line value ≡ Value TupleType n
unfolding type_line
type_line_lem n value (inl (e, q)) = ap type_line e ∙ ap (Value TupleType) (sym q)
type_line_lem n value (inr (e, q)) = ap type_line e ∙ ap (Value TupleType) (sym q)

-- a value of the five names' is a token, and its line gives it
told : (name : Field) (n : ℕ) (value : List ℕ) → Worth name n value → Token value × (field_line (name_text name) value ≡ Value name n)
unfolding field_line
told Width n value h = (number_token value h, number_line_lem Width n value h)
told Height n value h = (number_token value h, number_line_lem Height n value h)
told Depth n value h = (number_token value h, number_line_lem Depth n value h)
told Maxval n value h = (number_token value h, number_line_lem Maxval n value h)
told TupleType n value h = (samples_token n value h, type_line_lem n value h)

pub gives_only : (name : Field) (n : ℕ) (line : List ℕ) → Gives name n line → header_line line ≡ Value name n
unfolding tokens_line
gives_only name n line g =
    let p = g.pair in
    let (k, e) = told name n g.value g.worth in
    ap header_line p.whole
    ∙ plain p.before (name_text name) (p.between ++ (g.value ++ p.behind)) p.spaced.0 (name_plain name)
    ∙ ap (λ (l : List ℕ). tokens_line (tokens l)) (sym p.whole)
    ∙ ap tokens_line (pair_tokens (name_token name) k p)
    ∙ e

-- ---- the meaning of a line
abbrev pub Means : List ℕ → HeaderLine → Type 0
Means line Ignored = Idle line
Means line (Value name n) = Gives name n line
Means line End = Alone (text "ENDHDR") line
Means line Wrong = (Says line → ⊥) × (Alone (text "ENDHDR") line → ⊥)

pub line_means : (line : List ℕ) → Means line (header_line line)
line_means line = go (header_line line) refl (found line)
  where
    go : (x : HeaderLine) → header_line line ≡ x → Found line x → Means line x
    go Ignored e f = f
    go (Value name n) e f = f
    go End e f = f
    go Wrong e f = (
      λ s. elim s [
        | inl i ↦ clash refl (ap is_wrong (sym e ∙ idle_only line i))
        | inr (name, n, g) ↦ clash refl (ap is_wrong (sym e ∙ gives_only name n line g))
      ],
      λ a. clash refl (ap is_wrong (sym e ∙ end_only line a)),
    )

pub means_only : (line : List ℕ) (x : HeaderLine) → Means line x → header_line line ≡ x
means_only line Ignored m = idle_only line m
means_only line (Value name n) m = gives_only name n line m
means_only line End m = end_only line m
means_only line Wrong m = go (header_line line) refl (found line)
  where
    go : (x : HeaderLine) → header_line line ≡ x → Found line x → header_line line ≡ Wrong
    go Ignored e f = absurd (m.0 (inl f))
    go (Value name n) e f = absurd (m.0 (inr (name, n, f)))
    go End e f = absurd (m.1 f)
    go Wrong e f = e

-- only one
pub means_one : (line : List ℕ) (x y : HeaderLine) → Means line x → Means line y → x ≡ y
means_one line x y a b = sym (means_only line x a) ∙ means_only line y b
