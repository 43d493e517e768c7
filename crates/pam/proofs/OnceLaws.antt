-- Names that are given a value exactly once: of lines, `values_of` has the one value n exactly if one line gives it and no other gives the name any. Assumes
-- nothing.
use mathlib.Core.Path.{◌≡◌, refl, sym, ap, ◌∙◌, subst}
use Prim.Native.Nat.{ℕ}
use mathlib.Core.Bool.{Bool, true, false, cond}
use mathlib.Core.List.{List, [], ◌∷◌, ◌++◌, map, tail}
use lib.Dec.{eqb}
use Rattle.lists.proofs.Bools.{clash}
use Rattle.pam.specs.declared.header.Field.{Field}
use Rattle.pam.specs.declared.header.HeaderLine.{HeaderLine}
use Rattle.pam.specs.declared.header.HeaderLine.TheVariants.{Ignored, Value, End, Wrong}
use Rattle.pam.specs.Header.{place, header_line, values_in, values_of, is_one, the_one}
use Rattle.pam.specs.Subset.{Gives, Silent, Once}
use Rattle.pam.proofs.FieldLaws.{same_place, own_place}
use Rattle.pam.proofs.PairLaws.{cons_some}
use Rattle.pam.proofs.MeaningLaws.{Means, line_means, gives_only}

pub one_value : (vs : List ℕ) → is_one vs ≡ true → vs ≡ the_one vs ∷ []
one_value [] e = absurd (clash refl (sym e))
one_value (n ∷ []) e = refl
one_value (n ∷ m ∷ more) e = absurd (clash refl (sym e))

both_empty : (xs ys : List ℕ) → xs ++ ys ≡ [] → (xs ≡ []) × (ys ≡ [])
both_empty [] ys e = (refl, e)
both_empty (x ∷ xs) ys e = absurd (cons_some e)

module _ (name : Field) where
  -- ---- a line
  line_gives : {n : ℕ} {line : List ℕ} → Gives name n line → values_in name (header_line line) ≡ n ∷ []
  line_gives {n} {line} g = rw (gives_only name n line g, own_place name)

  line_silent : {line : List ℕ} → values_in name (header_line line) ≡ [] → (n : ℕ) → Gives name n line → ⊥
  line_silent e n g = cons_some (sym (line_gives g) ∙ e)

  -- a value that the line has is one that it gives
  Given : List ℕ → List ℕ → Type 0
  Given line [] = Unit {0}
  Given line (n ∷ more) = Gives name n line

  line_given : (line : List ℕ) → Given line (values_in name (header_line line))
  unfolding Given
  line_given line = go (header_line line) (line_means line)
    where
      go : (x : HeaderLine) → Means line x → Given line (values_in name x)
      go Ignored m = tt
      go (Value given n) m = pick (eqb (place given) (place name)) refl
        where
          pick : (t : Bool) → eqb (place given) (place name) ≡ t → Given line (cond t (n ∷ []) [])
          pick true q = subst (λ (x : Field). Gives x n line) (same_place given name q) m
          pick false q = tt
      go End m = tt
      go Wrong m = tt

  line_none : {line : List ℕ} → ((n : ℕ) → Gives name n line → ⊥) → values_in name (header_line line) ≡ []
  unfolding Given
  line_none {line} h = go (values_in name (header_line line)) refl (line_given line)
    where
      go : (vs : List ℕ) → values_in name (header_line line) ≡ vs → Given line vs → values_in name (header_line line) ≡ []
      go [] e g = e
      go (n ∷ more) e g = absurd (h n g)

  -- ---- lines that give no value
  silent_only : (lines : List (List ℕ)) → Silent name lines → values_of name (map header_line lines) ≡ []
  unfolding values_of
  silent_only [] s = refl
  silent_only (line ∷ lines) s = rw (line_none s.0) (silent_only lines s.1)

  silent_is : (lines : List (List ℕ)) → values_of name (map header_line lines) ≡ [] → Silent name lines
  unfolding values_of
  silent_is [] e = tt
  silent_is (line ∷ lines) e =
      let (here, rest) = both_empty (values_in name (header_line line)) (values_of name (map header_line lines)) e in
      (line_silent here, silent_is lines rest)

  -- ---- lines of which one does
  one_of_them : {n : ℕ} (before : List (List ℕ)) (line : List ℕ) (behind : List (List ℕ)) → Silent name before → Gives name n line → Silent name behind
      → values_of name (map header_line (before ++ (line ∷ behind))) ≡ n ∷ []
  unfolding values_of
  one_of_them [] line behind s g t = rw (line_gives g, silent_only behind t)
  one_of_them (l ∷ before) line behind s g t = rw (line_none s.0) (one_of_them before line behind s.1 g t)

  pub once_only : {n : ℕ} {lines : List (List ℕ)} → Once name n lines → values_of name (map header_line lines) ≡ n ∷ []
  once_only o =
      ap (λ (ls : List (List ℕ)). values_of name (map header_line ls)) o.whole
      ∙ one_of_them o.before o.line o.behind o.others.0 o.gives o.others.1

  pub once_is : (n : ℕ) (lines : List (List ℕ)) → values_of name (map header_line lines) ≡ n ∷ [] → Once name n lines
  unfolding values_of Given
  once_is n [] e = absurd (cons_some (sym e))
  once_is n (line ∷ lines) e = go (values_in name (header_line line)) refl (line_given line) e (once_is n lines)
    where
      later : values_in name (header_line line) ≡ [] → Once name n lines → Once name n (line ∷ lines)
      later q o = record {
        before = line ∷ o.before;
        line = o.line;
        behind = o.behind;
        whole = ap (λ (ls : List (List ℕ)). line ∷ ls) o.whole;
        gives = o.gives;
        others = ((line_silent q, o.others.0), o.others.1);
      }

      go : (vs : List ℕ) → values_in name (header_line line) ≡ vs → Given line vs → vs ++ values_of name (map header_line lines) ≡ n ∷ []
          → (values_of name (map header_line lines) ≡ n ∷ [] → Once name n lines) → Once name n (line ∷ lines)
      go [] q g e r = later q (r e)
      go (m ∷ more) q g e r = record {
        before = [];
        line = line;
        behind = lines;
        whole = refl;
        gives = subst (λ (k : ℕ). Gives name k line) (ap the_one e) g;
        others = (tt, silent_is lines (both_empty more (values_of name (map header_line lines)) (ap tail e)).1);
      }
