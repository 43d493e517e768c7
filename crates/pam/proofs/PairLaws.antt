-- Lines of no token, of one and of two: the tokens are so exactly if the bytes are white space alone, a token with white space around it, or two tokens with
-- white space between them and around. Assumes nothing.
use mathlib.Core.Path.{◌≡◌, refl, sym, ap, ◌∙◌, subst}
use Prim.Native.Nat.{ℕ}
use mathlib.Core.Bool.{Bool, true, false, cond, not}
use mathlib.Core.List.{List, [], ◌∷◌, ◌++◌}
use lib.Dec.{T}
use Rattle.lists.specs.Order.{All}
use Rattle.lists.proofs.Bools.{clash, holds, fails, is_true}
use Rattle.pam.specs.Text.{is_white}
use Rattle.pam.specs.Lines.{in_token, onto_token, tokens}
use Rattle.pam.specs.Subset.{Alone, Pair}
use Rattle.pam.proofs.TokenLaws.{is_ink, skip_white, first_token}

-- a token: one byte or more, none of them white space
abbrev pub Token : List ℕ → Type 0
Token t = (t ≡ [] → ⊥) × All is_ink t

-- ---- what the first byte is
pub cons_some : {b : ℕ} {bs : List ℕ} → b ∷ bs ≡ [] → ⊥
cons_some e = subst some e tt
  where
    some : List ℕ → Type 0
    some [] = ⊥
    some (x ∷ xs) = Unit {0}

in_token_lem : (t l : List ℕ) → Token t → in_token (t ++ l) ≡ true
in_token_lem [] l k = absurd (k.0 refl)
in_token_lem (b ∷ t) l k = is_true (is_ink b) k.1.0

in_white : (w l : List ℕ) → (w ≡ [] → ⊥) → All is_white w → in_token (w ++ l) ≡ false
in_white [] l n a = absurd (n refl)
in_white (b ∷ w) l n a = ap not (is_true (is_white b) a.0)

white_out : (w : List ℕ) → All is_white w → in_token w ≡ false
white_out [] a = refl
white_out (b ∷ w) a = ap not (is_true (is_white b) a.0)

-- a token begins at once: no white space is before it
none_before : (w l : List ℕ) → All is_white w → in_token (w ++ l) ≡ true → w ++ l ≡ l
none_before [] l a e = refl
none_before (b ∷ w) l a e = absurd (clash e (ap not (is_true (is_white b) a.0)))

-- ---- tokens in general: white space, then a token up to white space or the end, and so on; at last white space
abbrev pub Parted : List ℕ → List (List ℕ) → Type 0
Parted line [] = All is_white line
Parted line (t ∷ ts) =
    (before : List ℕ) × (rest : List ℕ) × All is_white before × Token t × (in_token rest ≡ false) × (line ≡ before ++ (t ++ rest)) × Parted rest ts

whiter : (b : ℕ) (bs : List ℕ) (ts : List (List ℕ)) → T (is_white b) → Parted bs ts → Parted (b ∷ bs) ts
whiter b bs [] h p = (h, p)
whiter b bs (t ∷ ts) h (before, rest, w, k, f, e, p) = (b ∷ before, rest, (h, w), k, f, ap (λ (l : List ℕ). b ∷ l) e, p)

longer : (b : ℕ) (bs : List ℕ) (ts : List (List ℕ)) → T (is_ink b) → in_token bs ≡ true → Parted bs ts → Parted (b ∷ bs) (onto_token b ts)
longer b bs [] h i p = absurd (clash i (white_out bs p))
longer b bs (t ∷ ts) h i (before, rest, w, k, f, e, p) =
    ([], rest, tt, (cons_some, (h, k.1)), f, ap (λ (l : List ℕ). b ∷ l) (e ∙ none_before before (t ++ rest) w (ap in_token (sym e) ∙ i)), p)

pub tokens_parted : (line : List ℕ) → Parted line (tokens line)
unfolding tokens
tokens_parted [] = tt
tokens_parted (b ∷ bs) = go (is_white b) refl (in_token bs) refl (tokens_parted bs)
  where
    go : (w : Bool) → is_white b ≡ w → (i : Bool) → in_token bs ≡ i → Parted bs (tokens bs)
        → Parted (b ∷ bs) (cond w (tokens bs) (cond i (onto_token b (tokens bs)) ((b ∷ []) ∷ tokens bs)))
    go true e i f p = whiter b bs (tokens bs) (holds e) p
    go false e true f p = longer b bs (tokens bs) (fails e) f p
    go false e false f p = ([], bs, tt, (cons_some, (fails e, tt)), f, refl, p)

-- ---- no token, one, two: the bytes are so
pub no_token : (line : List ℕ) → tokens line ≡ [] → All is_white line
no_token line e = subst (Parted line) e (tokens_parted line)

pub one_token : (line name : List ℕ) → tokens line ≡ name ∷ [] → Token name × Alone name line
one_token line name e =
    let (before, behind, w, k, f, whole, v) = subst (Parted line) e (tokens_parted line) in
    (k, record { before = before; behind = behind; spaced = (w, v); whole = whole })

pub two_tokens : (line name value : List ℕ) → tokens line ≡ name ∷ value ∷ [] → Token name × Token value × Pair name value line
two_tokens line name value e =
    let (before, rest, w, k, f, whole, p) = subst (Parted line) e (tokens_parted line) in
    let (between, behind, v, m, g, more, u) = p in (
      k,
      m,
      record {
        before = before;
        between = between;
        behind = behind;
        spaced = (w, v, u);
        apart = λ none. clash (ap in_token (more ∙ ap (λ (l : List ℕ). l ++ (value ++ behind)) none) ∙ in_token_lem value behind m) f;
        whole = whole ∙ ap (λ (l : List ℕ). before ++ (name ++ l)) more;
      },
    )

-- ---- and back: the tokens are so
next_token : (t l : List ℕ) → Token t → in_token l ≡ false → tokens (t ++ l) ≡ t ∷ tokens l
next_token [] l k e = absurd (k.0 refl)
next_token (b ∷ t) l k e = first_token b t l k.1 e

pub white_tokens : (line : List ℕ) → All is_white line → tokens line ≡ []
unfolding tokens
white_tokens [] a = refl
white_tokens (b ∷ bs) a = rw (is_true (is_white b) a.0) (white_tokens bs a.1)

pub alone_tokens : {line name : List ℕ} → Token name → Alone name line → tokens line ≡ name ∷ []
alone_tokens {line} {name} k a =
    ap tokens a.whole
    ∙ skip_white a.before (name ++ a.behind) a.spaced.0
    ∙ next_token name a.behind k (white_out a.behind a.spaced.1)
    ∙ ap (λ (ts : List (List ℕ)). name ∷ ts) (white_tokens a.behind a.spaced.1)

pub pair_tokens : {line name value : List ℕ} → Token name → Token value → Pair name value line → tokens line ≡ name ∷ value ∷ []
pair_tokens {line} {name} {value} k m a =
    ap tokens a.whole
    ∙ skip_white a.before (name ++ (a.between ++ (value ++ a.behind))) a.spaced.0
    ∙ next_token name (a.between ++ (value ++ a.behind)) k (in_white a.between (value ++ a.behind) a.apart a.spaced.1)
    ∙ ap (λ (ts : List (List ℕ)). name ∷ ts)
    (skip_white a.between (value ++ a.behind) a.spaced.1
    ∙ next_token value a.behind m (white_out a.behind a.spaced.2)
    ∙ ap (λ (ts : List (List ℕ)). value ∷ ts) (white_tokens a.behind a.spaced.2))
