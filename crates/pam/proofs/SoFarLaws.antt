-- The lines of a header, read one after another: what is known of all of them from those that are left and from the five values so far. Assumes nothing.
use mathlib.Core.Path.{◌≡◌, refl, sym, ap, ◌∙◌, subst}
use mathlib.Core.Bool.{Bool, true, false, cond}
use mathlib.Core.List.{List, [], ◌∷◌, ◌++◌, map, append-nil}
use Prim.Native.Nat.{ℕ, ◌<◌}
use native.Mathlib.Omega.{arith}
use borrow.Author.Tests.{eqb-false}
use lib.Dec.{eqb}
use lib.ListN.{length, set, length-set}
use lib.Seq.{get_or-set_same, get_or-set_other}
use Rattle.std.specs.Prelude.{Option, None, Some}
use Rattle.pam.specs.declared.header.Field.{Field}
use Rattle.pam.specs.declared.header.Field.TheVariants.{Width, Height, Depth, Maxval, TupleType}
use Rattle.pam.specs.declared.header.HeaderLine.TheVariants.{Ignored, Value, End}
use Rattle.pam.specs.Lines.{Line}
use Rattle.pam.specs.Header.{place, header_line, is_end, ended, said, behind_end, any_wrong, values_of}
use Rattle.pam.specs.Reading.{capped, given, held}
use Rattle.pam.proofs.FieldLaws.{same_place, place_within}

-- ---- a line in front of others

module _ (l : Line) (ls : List Line) where
  module _ (e : is_end (header_line l.bytes) ≡ false) where
    ended_later : ended (l ∷ ls) ≡ ended ls
    unfolding ended
    ended_later = rw e

    pub said_more : said (l ∷ ls) ≡ header_line l.bytes ∷ said ls
    unfolding said
    said_more = rw e

    behind_later : behind_end (l ∷ ls) ≡ behind_end ls
    unfolding behind_end
    behind_later = rw e

  module _ (e : is_end (header_line l.bytes) ≡ true) where
    ended_here : ended (l ∷ ls) ≡ true
    unfolding ended
    ended_here = rw e

    said_none : said (l ∷ ls) ≡ []
    unfolding said
    said_none = rw e

    behind_here : behind_end (l ∷ ls) ≡ l.behind
    unfolding behind_end
    behind_here = rw e

-- ---- so far

pub record SoFar (all rest : List Line) (values : List (Option ℕ)) : Type 0 where
  pub five : length values ≡ 5
  pub ends : ended all ≡ ended rest
  pub right : any_wrong (said all) ≡ any_wrong (said rest)
  pub behind : behind_end all ≡ behind_end rest
  pub found : (name : Field) → map capped (values_of name (said all)) ≡ given (held name values) ++ map capped (values_of name (said rest))

abbrev pub no_values : List (Option ℕ)
no_values = None ∷ None ∷ None ∷ None ∷ None ∷ []

pub far_begin : (all : List Line) → SoFar all all no_values
far_begin all = record { five = refl; ends = refl; right = refl; behind = refl; found = found }
  where
    found : (name : Field) → map capped (values_of name (said all)) ≡ given (held name no_values) ++ map capped (values_of name (said all))
    found Width = refl
    found Height = refl
    found Depth = refl
    found Maxval = refl
    found TupleType = refl

module _ {all : List Line} {l : Line} {ls : List Line} {values : List (Option ℕ)} (s : SoFar all (l ∷ ls) values) where
  -- a line that says nothing
  pub far_ignored : header_line l.bytes ≡ Ignored → SoFar all ls values
  unfolding any_wrong values_of
  far_ignored e =
      let n : is_end (header_line l.bytes) ≡ false = rw e in
      let m : said (l ∷ ls) ≡ Ignored ∷ said ls = said_more l ls n ∙ rw e in
      record {
        five = s.five;
        ends = s.ends ∙ ended_later l ls n;
        right = s.right ∙ ap any_wrong m;
        behind = s.behind ∙ behind_later l ls n;
        found = λ name. s.found name ∙ rw m;
      }

  -- a line that gives a name its first value
  pub far_valued : (name : Field) (n : ℕ) → header_line l.bytes ≡ Value name n → held name values ≡ None
      → SoFar all ls (set values (place name) (Some (capped n)))
  unfolding any_wrong values_of
  far_valued name n e u =
      let i : is_end (header_line l.bytes) ≡ false = rw e in
      let m : said (l ∷ ls) ≡ Value name n ∷ said ls = said_more l ls i ∙ rw e in
      record {
        five = length-set values (place name) (Some (capped n)) ∙ s.five;
        ends = s.ends ∙ ended_later l ls i;
        right = s.right ∙ ap any_wrong m;
        behind = s.behind ∙ behind_later l ls i;
        found = λ other. s.found other ∙ rw m (go other (eqb (place name) (place other)) refl);
      }
    where
      go : (other : Field) (t : Bool) → eqb (place name) (place other) ≡ t
          → given (held other values) ++ map capped (cond t (n ∷ []) [] ++ values_of other (said ls))
          ≡ given (held other (set values (place name) (Some (capped n)))) ++ map capped (values_of other (said ls))
      go other true q =
          let same : name ≡ other = same_place name other q in
          let within : place name < length values = omega (arith, s.five, place_within name) in
          subst (λ (o : Field). given (held o values) ++ map capped (n ∷ values_of o (said ls))
          ≡ given (held o (set values (place name) (Some (capped n)))) ++ map capped (values_of o (said ls))) same
          (rw (u, get_or-set_same values (place name) (Some (capped n)) None within) refl)
      go other false q =
          rw (get_or-set_other values (place name) (place other) (Some (capped n)) None (λ z. eqb-false (place name) (place other) q (sym z)))

  -- the line that ends the header
  pub record Ended : Type 0 where
    pub ends : ended all ≡ true
    pub right : any_wrong (said all) ≡ false
    pub behind : behind_end all ≡ l.behind
    pub found : (name : Field) → map capped (values_of name (said all)) ≡ given (held name values)

  pub far_ended : header_line l.bytes ≡ End → Ended
  unfolding any_wrong values_of
  far_ended e =
      let i : is_end (header_line l.bytes) ≡ true = rw e in
      let m : said (l ∷ ls) ≡ [] = said_none l ls i in
      record {
        ends = s.ends ∙ ended_here l ls i;
        right = s.right ∙ ap any_wrong m;
        behind = s.behind ∙ behind_here l ls i;
        found = λ name. s.found name ∙ rw m (append-nil (given (held name values)));
      }
