-- Tokens: white space before them counts for nothing, and the longest run of other bytes is the first of them. Assumes nothing.
use mathlib.Core.Path.{◌≡◌, refl, sym, ap, ◌∙◌}
use mathlib.Core.Bool.{Bool, true, false, not}
use mathlib.Core.List.{List, [], ◌∷◌, ◌++◌, append-nil}
use Prim.Native.Nat.{ℕ, suc}
use borrow.Author.Tests.{not-false}
use lib.Dec.{T}
use native.Mathlib.Omega.{arith}
use lib.ListN.{length, get_or, take, drop, take-append-drop}
use lib.Seq.{drop-cons}
use Rattle.std.specs.Prelude.{None, Some, position}
use Rattle.std.specs.List.{position_or_len}
use Rattle.std.specs.Option.{unwrap_or}
use Rattle.lists.specs.Order.{All}
use Rattle.lists.proofs.Bools.{is_true, is_false, holds, fails}
use Rattle.pam.specs.Text.{is_white}
use Rattle.pam.specs.Lines.{in_token, onto_token, tokens}
use Rattle.pam.proofs.TextLaws.{onward, onward_is, fails_before, passes_then, first_or_length, none_passes, one_passes}

-- a byte of a token
abbrev pub is_ink : ℕ → Bool
is_ink b = not (is_white b)

pub skip_white : (w l : List ℕ) → All is_white w → tokens (w ++ l) ≡ tokens l
unfolding tokens
skip_white [] l a = refl
skip_white (b ∷ w) l a = rw (is_true (is_white b) a.0) (skip_white w l a.1)

-- a byte before a token that goes on
onto_token_lem : (b : ℕ) (bs : List ℕ) → is_white b ≡ false → in_token bs ≡ true → tokens (b ∷ bs) ≡ onto_token b (tokens bs)
unfolding tokens
onto_token_lem b bs e f = rw (e, f)

pub first_token : (b : ℕ) (t l : List ℕ) → All is_ink (b ∷ t) → in_token l ≡ false → tokens ((b ∷ t) ++ l) ≡ (b ∷ t) ∷ tokens l
unfolding tokens
first_token b [] l a e = rw (is_false (is_white b) a.0, e)
first_token b (x ∷ t) l a e =
    onto_token_lem b ((x ∷ t) ++ l) (is_false (is_white b) a.0) (is_true (is_ink x) a.1.0) ∙ ap (onto_token b) (first_token x t l a.1 e)

-- ---- the tokens of a line as its reader finds them: past the white space at its front, up to the next white space

-- bytes that are none of a token's
all_white : (l : List ℕ) → All (λ b. not (is_ink b)) l → All is_white l
all_white [] a = tt
all_white (b ∷ bs) a = (holds (white b a.0), all_white bs a.1)
  where
    white : (b : ℕ) → T (not (is_ink b)) → is_white b ≡ true
    white b h = not-false (is_white b) (is_false (is_ink b) h)

only_white : (l : List ℕ) → All is_white l → tokens l ≡ []
unfolding tokens
only_white l a = ap tokens (sym (append-nil l)) ∙ skip_white l [] a ∙ none
  where
    none : tokens [] ≡ []
    none = refl

-- a byte of a token: with those up to the next white space it is the first token
first_run : (b : ℕ) (bs : List ℕ) → is_white b ≡ false
    → tokens (b ∷ bs) ≡ take (position_or_len is_white (b ∷ bs)) (b ∷ bs) ∷ tokens (drop (position_or_len is_white (b ∷ bs)) (b ∷ bs))
first_run b bs e = go (position_or_len is_white (b ∷ bs)) (rw e (omega arith))
  where
    stops : (d : List ℕ) → ((c : ℕ) (rest : List ℕ) → d ≡ c ∷ rest → is_white c ≡ true) → in_token d ≡ false
    stops [] s = refl
    stops (c ∷ rest) s = ap not (s c rest refl)

    go : (m : ℕ) → m ≡ suc (position_or_len is_white bs) → tokens (b ∷ bs) ≡ take m (b ∷ bs) ∷ tokens (drop m (b ∷ bs))
    go m more =
        rw more
        (ap (λ (r : List ℕ). tokens (b ∷ r)) (sym (take-append-drop (position_or_len is_white bs) bs))
        ∙ first_token b (take (position_or_len is_white bs) bs) (drop (position_or_len is_white bs) bs) (fails e, fails_before is_white bs)
        (stops (drop (position_or_len is_white bs) bs) (passes_then is_white bs)))

module _ (line : List ℕ) where
  pub no_token_left : position is_ink line ≡ None → tokens line ≡ []
  no_token_left e = only_white line (all_white line (none_passes is_ink line e))

  pub next_token_is : (start size : ℕ) → position is_ink line ≡ Some start
      → size ≡ unwrap_or (position is_white (onward start line)) (length (onward start line))
      → tokens line ≡ take size (onward start line) ∷ tokens (drop size (onward start line))
  next_token_is start size e f =
      let (same, within) = one_passes is_ink line start e in
      let long : size ≡ position_or_len is_white (drop start line) = f ∙ first_or_length is_white (onward start line) ∙ ap (position_or_len is_white) (onward_is start line) in
      let d : drop start line ≡ get_or line start 0 ∷ drop (suc start) line = drop-cons line start 0 within in
      let ink : is_white (get_or line start 0) ≡ false =
      is_false (is_white (get_or line start 0)) (holds (passes_then is_ink line _ _ (ap (λ (n : ℕ). drop n line) (sym same) ∙ d))) in
      ap tokens (sym (take-append-drop start line))
      ∙ skip_white (take start line) (drop start line) (rw same (all_white _ (fails_before is_ink line)))
      ∙ rw (onward_is start line, long, d) (first_run (get_or line start 0) (drop (suc start) line) ink)
