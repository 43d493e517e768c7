-- Lines that are not those of a header: one is wrong, a name has a second value, or none ends it. Assumes nothing.
use mathlib.Core.Path.{◌≡◌, refl, ap, ◌∙◌}
use mathlib.Core.Bool.{Bool, true, false, not, ◌||◌}
use mathlib.Core.List.{List, [], ◌∷◌, ◌++◌, map}
use Prim.Native.Nat.{ℕ}
use native.Mathlib.Omega.{arith}
use Rattle.std.specs.Prelude.{Option, None, Some, IsSome}
use Rattle.lists.proofs.Bools.{clash}
use Rattle.pam.specs.declared.header.Field.{Field}
use Rattle.pam.specs.declared.header.Field.TheVariants.{Width, Height, Depth, Maxval, TupleType}
use Rattle.pam.specs.declared.header.HeaderLine.{HeaderLine}
use Rattle.pam.specs.declared.header.HeaderLine.TheVariants.{Value, Wrong}
use Rattle.pam.specs.Lines.{Line}
use Rattle.pam.specs.Header.{header_line, is_end, ended, said, any_wrong, values_of, is_one, not_once, lines_wrong}
use Rattle.pam.specs.Reading.{capped, given, held}
use Rattle.pam.proofs.FieldLaws.{own_place}
use Rattle.pam.proofs.SoFarLaws.{SoFar, said_more}

-- ---- three ways to be wrong

either : (s t : Bool) → t ≡ true → s || t ≡ true
either true t e = refl
either false t e = e

module _ (ls : List Line) where
  unended : ended ls ≡ false → lines_wrong ls ≡ true
  unfolding lines_wrong
  unended e = rw e

  wrong_one : any_wrong (said ls) ≡ true → lines_wrong ls ≡ true
  unfolding lines_wrong
  wrong_one e = either (not (ended ls)) _ (rw e)

  not_once_lem : not_once (said ls) ≡ true → lines_wrong ls ≡ true
  unfolding lines_wrong
  not_once_lem e = either (not (ended ls)) _ (either (any_wrong (said ls)) _ e)

-- a name without exactly one value
pub name_not_one : (xs : List HeaderLine) (name : Field) → is_one (values_of name xs) ≡ false → not_once xs ≡ true
unfolding not_once
name_not_one xs Width e = rw e
name_not_one xs Height e = either (not (is_one (values_of Width xs))) _ (rw e)
name_not_one xs Depth e = either (not (is_one (values_of Width xs))) _ (either (not (is_one (values_of Height xs))) _ (rw e))
name_not_one xs Maxval e =
    either (not (is_one (values_of Width xs))) _
    (either (not (is_one (values_of Height xs))) _ (either (not (is_one (values_of Depth xs))) _ (rw e)))
name_not_one xs TupleType e =
    either (not (is_one (values_of Width xs))) _
    (either (not (is_one (values_of Height xs))) _
    (either (not (is_one (values_of Depth xs))) _ (either (not (is_one (values_of Maxval xs))) _ (rw e))))

-- two values and more, kept up to the bound
two_not_one : (ns ms : List ℕ) (o : Option ℕ) (w : ℕ) → IsSome o → map capped ns ≡ given o ++ (w ∷ ms) → is_one ns ≡ false
two_not_one [] ms o w s e = refl
two_not_one (n ∷ []) ms None w s e = absurd (clash s refl)
two_not_one (n ∷ []) ms (Some v) w s e = let z : ◌≡◌ {A = ℕ} 0 1 = cc in absurd (omega arith)
two_not_one (n ∷ m ∷ ns) ms o w s e = refl

-- ---- no line is left
pub far_none : {all : List Line} {values : List (Option ℕ)} → SoFar all [] values → lines_wrong all ≡ true
unfolding ended
far_none {all} s = unended all s.ends

-- ---- a line that refuses the header
module _ {all : List Line} {l : Line} {ls : List Line} {values : List (Option ℕ)} (s : SoFar all (l ∷ ls) values) where
  pub far_wrong : header_line l.bytes ≡ Wrong → lines_wrong all ≡ true
  unfolding any_wrong
  far_wrong e =
      let i : is_end (header_line l.bytes) ≡ false = rw e in
      let m : said (l ∷ ls) ≡ Wrong ∷ said ls = said_more l ls i ∙ rw e in
      wrong_one all (s.right ∙ ap any_wrong m)

  pub far_second : (name : Field) (n : ℕ) → header_line l.bytes ≡ Value name n → IsSome (held name values) → lines_wrong all ≡ true
  unfolding values_of
  far_second name n e u =
      let i : is_end (header_line l.bytes) ≡ false = rw e in
      let m : said (l ∷ ls) ≡ Value name n ∷ said ls = said_more l ls i ∙ rw e in
      not_once_lem all (name_not_one (said all) name
      (two_not_one (values_of name (said all)) (map capped (values_of name (said ls))) (held name values) (capped n) u
      (s.found name ∙ rw (m, own_place name))))
