-- The five values that the lines gave, and the header that they make: it is in the subset exactly if none is missing, MAXVAL is 255, and DEPTH is what the
-- tuple type has. Assumes nothing.
use mathlib.Core.Path.{◌≡◌, refl, sym, ap, ◌∙◌, subst}
use mathlib.Core.Bool.{Bool, true, false, cond, not}
use mathlib.Core.List.{List, [], ◌∷◌, ◌++◌, map}
use Prim.Native.Nat.{ℕ, ◌≤◌}
use native.Mathlib.Omega.{arith}
use borrow.Author.Tests.{eq-eqb, not-false}
use lib.Dec.{eqb}
use lib.ListN.{drop}
use Rattle.std.specs.Prelude.{Option, None, Some}
use Rattle.lists.proofs.Bools.{clash, or_split, equals}
use Rattle.pam.specs.declared.Size.{Size}
use Rattle.pam.specs.declared.header.Field.{Field}
use Rattle.pam.specs.declared.header.Field.TheVariants.{Width, Height, Depth, Maxval, TupleType}
use Rattle.pam.specs.declared.header.HeaderLine.{HeaderLine}
use Rattle.pam.specs.declared.header.HeaderLine.TheVariants.{Ignored, Value, End, Wrong}
use Rattle.pam.specs.Lines.{Line}
use Rattle.pam.specs.Header.{place, header_line, is_end, ended, said, values_of, is_one, the_one, any_wrong, not_once, lines_wrong}
use Rattle.pam.specs.Header.{magic, lines_in, said_in, header_wrong, width_of, height_of, depth_of}
use Rattle.pam.specs.Reading.{capped, given, held, LinesRead, Whole}
use Rattle.pam.proofs.FieldLaws.{same_place}
use Rattle.pam.proofs.WordLaws.{Sampled, SampledLine, line_sampled}

-- ---- a name's values, and what its place holds: a value exactly if it has one value

one_held : (ns : List ℕ) (o : Option ℕ) → map capped ns ≡ given o → is_one ns ≡ true → o ≡ Some (capped (the_one ns))
one_held [] o e one = absurd (clash one refl)
one_held (n ∷ []) None e one = absurd (let z : ◌≡◌ {A = ℕ} 0 1 = cc in omega arith)
one_held (n ∷ []) (Some v) e one = let same : capped n ≡ v = cc in ap Some (sym same)
one_held (n ∷ m ∷ ns) o e one = absurd (clash one refl)

held_one : (ns : List ℕ) (o : Option ℕ) (v : ℕ) → map capped ns ≡ given o → o ≡ Some v → (is_one ns ≡ true) × (capped (the_one ns) ≡ v)
held_one ns o v e h = go ns (e ∙ ap given h)
  where
    go : (ns : List ℕ) → map capped ns ≡ v ∷ [] → (is_one ns ≡ true) × (capped (the_one ns) ≡ v)
    go [] e = absurd (let z : ◌≡◌ {A = ℕ} 0 1 = cc in omega arith)
    go (n ∷ []) e = (refl, cc)
    go (n ∷ m ∷ ns) e = absurd (let z : ◌≡◌ {A = ℕ} 0 1 = cc in omega arith)

-- ---- a tuple type has three samples or four

abbrev Samples : List ℕ → Type 0
Samples [] = Unit {0}
Samples (n ∷ ns) = (3 ≤ n) × (n ≤ 4) × Samples ns

samples_in : (ls : List Line) → Samples (values_of TupleType (said ls))
unfolding said values_of
samples_in [] = tt
samples_in (l ∷ ls) = go (header_line l.bytes) (line_sampled l.bytes) (samples_in ls)
  where
    go : (x : HeaderLine) → SampledLine x → Samples (values_of TupleType (said ls))
        → Samples (values_of TupleType (cond (is_end x) [] (x ∷ said ls)))
    go Ignored h s = s
    go (Value name n) h s = pick (eqb (place name) (place TupleType)) refl
      where
        pick : (t : Bool) → eqb (place name) (place TupleType) ≡ t → Samples (cond t (n ∷ []) [] ++ values_of TupleType (said ls))
        pick true e = let b : (3 ≤ n) × (n ≤ 4) = subst (λ (f : Field). Sampled f n) (same_place name TupleType e) h in (b.0, b.1, s)
        pick false e = s
    go End h s = tt
    go Wrong h s = s

type_samples : (ls : List Line) → is_one (values_of TupleType (said ls)) ≡ true
    → (3 ≤ the_one (values_of TupleType (said ls))) × (the_one (values_of TupleType (said ls)) ≤ 4)
type_samples ls one = go (values_of TupleType (said ls)) one (samples_in ls)
  where
    go : (ns : List ℕ) → is_one ns ≡ true → Samples ns → (3 ≤ the_one ns) × (the_one ns ≤ 4)
    go [] one s = absurd (clash one refl)
    go (n ∷ ns) one s = (s.0, s.1)

-- ---- the header that the values make

module _ (file : List ℕ) where
  -- each name's values
  abbrev ns : Field → List ℕ
  ns name = values_of name (said_in file)

  -- all five are given once, MAXVAL is 255, and the depth is that of the tuple type, with three samples or four
  pub record Right : Type 0 where
    pub once : (name : Field) → is_one (ns name) ≡ true
    pub most : the_one (ns Maxval) ≡ 255
    pub deep : the_one (ns Depth) ≡ the_one (ns TupleType)

  pub header_right : header_wrong file ≡ false → Right
  unfolding header_wrong lines_wrong not_once
  header_right e =
      let whole = or_split (lines_wrong (lines_in file)) _ (or_split (not (magic file)) _ e).1 in
      let rest = or_split (not (eqb (the_one (ns Maxval)) 255)) _ whole.1 in
      let lines = or_split (any_wrong (said_in file)) _ (or_split (not (ended (lines_in file))) _ whole.0).1 in
      let a = or_split (not (is_one (ns Width))) _ lines.1 in
      let b = or_split (not (is_one (ns Height))) _ a.1 in
      let c = or_split (not (is_one (ns Depth))) _ b.1 in
      let d = or_split (not (is_one (ns Maxval))) _ c.1 in
      record {
        once = each (not-false _ a.0) (not-false _ b.0) (not-false _ c.0) (not-false _ d.0) (not-false _ d.1);
        most = equals (the_one (ns Maxval)) 255 rest.0;
        deep = equals (the_one (ns Depth)) (the_one (ns TupleType)) rest.1;
      }
    where
      each : is_one (ns Width) ≡ true → is_one (ns Height) ≡ true → is_one (ns Depth) ≡ true → is_one (ns Maxval) ≡ true
          → is_one (ns TupleType) ≡ true → (name : Field) → is_one (ns name) ≡ true
      each a b c d e Width = a
      each a b c d e Height = b
      each a b c d e Depth = c
      each a b c d e Maxval = d
      each a b c d e TupleType = e

  module _ (m : magic file ≡ true) (values : List (Option ℕ)) (raster : List ℕ) (rd : LinesRead (drop 3 file) values raster) where
    pub right_header : Right → header_wrong file ≡ false
    unfolding header_wrong lines_wrong not_once
    right_header q =
        rw (
          m,
          rd.ends,
          rd.right,
          q.once Width,
          q.once Height,
          q.once Depth,
          q.once Maxval,
          q.once TupleType,
          eq-eqb (the_one (ns Maxval)) 255 q.most,
          eq-eqb (the_one (ns Depth)) (the_one (ns TupleType)) q.deep,
        )

    -- the values, of such a header
    pub right_whole : Right → Whole values (record { width = capped (width_of file); height = capped (height_of file) }) (depth_of file)
    right_whole q =
        let few = type_samples (lines_in file) (q.once TupleType) in
        let most : capped (the_one (ns Maxval)) ≡ 255 = omega (arith, q.most) in
        let deep : capped (the_one (ns Depth)) ≡ the_one (ns Depth) = omega (arith, q.deep, few.1) in
        let type : capped (the_one (ns TupleType)) ≡ the_one (ns Depth) = omega (arith, q.deep, few.1) in (
          holds Width,
          holds Height,
          holds Depth ∙ ap Some deep,
          holds Maxval ∙ ap Some most,
          holds TupleType ∙ ap Some type,
        )
      where
        holds : (name : Field) → held name values ≡ Some (capped (the_one (ns name)))
        holds name = one_held (ns name) (held name values) (rd.found name) (q.once name)

    -- such a header, of the values; its depth and sides
    module _ (size : Size) (depth : ℕ) (w : Whole values size depth) where
      abbrev kept : (name : Field) (v : ℕ) → held name values ≡ Some v → (is_one (ns name) ≡ true) × (capped (the_one (ns name)) ≡ v)
      kept name v = held_one (ns name) (held name values) v (rd.found name)

      few : (3 ≤ the_one (ns TupleType)) × (the_one (ns TupleType) ≤ 4)
      few = type_samples (lines_in file) (kept TupleType depth w.4).0

      pub whole_right : Right
      whole_right = record {
        once = each;
        most = omega (arith, (kept Maxval 255 w.3).1);
        deep = omega (arith, few.0, few.1, (kept Depth depth w.2).1, (kept TupleType depth w.4).1);
      }
        where
          each : (name : Field) → is_one (ns name) ≡ true
          each Width = (kept Width size.width w.0).0
          each Height = (kept Height size.height w.1).0
          each Depth = (kept Depth depth w.2).0
          each Maxval = (kept Maxval 255 w.3).0
          each TupleType = (kept TupleType depth w.4).0

      pub whole_wide : size.width ≡ capped (width_of file)
      whole_wide = sym (kept Width size.width w.0).1

      pub whole_high : size.height ≡ capped (height_of file)
      whole_high = sym (kept Height size.height w.1).1

      pub whole_deep : (depth ≡ depth_of file) × (3 ≤ depth) × (depth ≤ 4)
      whole_deep =
          let same : depth ≡ the_one (ns Depth) = omega (arith, few.0, few.1, (kept Depth depth w.2).1, (kept TupleType depth w.4).1) in
          (same, omega (arith, few.0, (kept TupleType depth w.4).1), omega (arith, few.1, (kept TupleType depth w.4).1))
