-- Lines: the bytes up to the first newline are the first line, and where there is no newline there is no line. Assumes nothing.
use mathlib.Core.Path.{◌≡◌, refl, sym, ap, ◌∙◌}
use mathlib.Core.Bool.{Bool, not}
use mathlib.Core.List.{List, [], ◌∷◌, ◌++◌}
use Prim.Native.Nat.{ℕ, suc, ◌+◌}
use native.Mathlib.Numerals.{add-one}
use borrow.Author.Tests.{eqb-true}
use lib.ListN.{get_or, take, drop, take-append-drop}
use lib.Seq.{drop-cons}
use Rattle.std.specs.Prelude.{None, Some, position}
use Rattle.lists.specs.Order.{All}
use Rattle.lists.proofs.Bools.{is_false}
use Rattle.pam.specs.Text.{is_newline}
use Rattle.pam.specs.Lines.{onto_line, lines_of}
use Rattle.pam.proofs.TextLaws.{fails_before, passes_then, none_passes, one_passes}

-- a byte of a line
abbrev pub is_part : ℕ → Bool
is_part b = not (is_newline b)

pub first_line : (l s : List ℕ) → All is_part l → lines_of (l ++ (10 ∷ s)) ≡ record { bytes = l; behind = s } ∷ lines_of s
unfolding lines_of is_newline
first_line [] s a = refl
first_line (b ∷ l) s a = rw (is_false (is_newline b) a.0) (ap (onto_line b) (first_line l s a.1))

pub no_line : (l : List ℕ) → All is_part l → lines_of l ≡ []
unfolding lines_of
no_line [] a = refl
no_line (b ∷ l) a = rw (is_false (is_newline b) a.0) (ap (onto_line b) (no_line l a.1))

-- ---- the first line as its reader finds it: `size` bytes up to the next newline
module _ (l : List ℕ) where
  pub no_line_left : position is_newline l ≡ None → lines_of l ≡ []
  no_line_left e = no_line l (none_passes is_newline l e)

  pub next_line_is : (size : ℕ) → position is_newline l ≡ Some size
      → lines_of l ≡ record { bytes = take size l; behind = drop (size + 1) l } ∷ lines_of (drop (size + 1) l)
  unfolding is_newline
  next_line_is size e =
      let (same, within) = one_passes is_newline l size e in
      let d : drop size l ≡ get_or l size 0 ∷ drop (suc size) l = drop-cons l size 0 within in
      let n : get_or l size 0 ≡ 10 = eqb-true (get_or l size 0) 10 (passes_then is_newline l _ _ (ap (λ (k : ℕ). drop k l) (sym same) ∙ d)) in
      let part : All is_part (take size l) = rw same (fails_before is_newline l) in
      ap lines_of (sym (take-append-drop size l) ∙ ap (λ (r : List ℕ). take size l ++ r) (d ∙ ap (λ (b : ℕ). b ∷ drop (suc size) l) n))
      ∙ rw (add-one size) (first_line (take size l) (drop (suc size) l) part)
