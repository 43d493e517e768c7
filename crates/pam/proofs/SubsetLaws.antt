-- The two definitions of a PAM file of the subset are one: what specs/Header reads is such a file, said of the bytes alone (`pam_is`), and of such a file it
-- reads just that size, depth and raster (`pam_only`). So a file has at most one of each (`pam_one`). Assumes nothing.
use mathlib.Core.Path.{◌≡◌, refl, sym, ap, ◌∙◌, subst}
use mathlib.Core.Logic.{inl, inr}
use Prim.Native.Nat.{ℕ}
use borrow.Author.Tests.{eq-eqb, not-false}
use mathlib.Core.Bool.{Bool, true, false, not, ◌||◌}
use mathlib.Core.List.{List, [], ◌∷◌, ◌++◌, map}
use lib.Dec.{eqb}
use lib.ListN.{take, drop, take-append-drop}
use Rattle.lists.proofs.Bools.{clash, or_split, equals}
use Rattle.pam.specs.Text.{text, same_text}
use Rattle.pam.specs.declared.header.HeaderLine.{HeaderLine}
use Rattle.pam.specs.declared.header.HeaderLine.TheVariants.{Ignored, Value, End, Wrong}
use Rattle.pam.specs.declared.header.Field.{Field}
use Rattle.pam.specs.declared.header.Field.TheVariants.{Width, Height, Depth, Maxval, TupleType}
use Rattle.pam.specs.Header.{header_line, is_end, ended}
use Rattle.pam.specs.Header.{is_wrong, any_wrong, values_of, is_one, the_one, not_once, magic, lines_in, said_in, value_in, lines_wrong}
use Rattle.pam.specs.Header.{header_wrong, width_of, height_of, depth_of, raster_of}
use Rattle.pam.specs.Subset.{Alone, Says, Each, Once, joined, PamFile}
use Rattle.pam.proofs.TextLaws.{same_text→eq}
use Rattle.pam.proofs.MeaningLaws.{Means, line_means, idle_only, gives_only, end_only}
use Rattle.pam.proofs.CutLaws.{Cut, cut_is, cut_only}
use Rattle.pam.proofs.OnceLaws.{one_value, once_is, once_only}

-- ---- lines that say nothing or give a value: none of them ends the header, none is wrong
says_plain : (line : List ℕ) → Says line → (is_end (header_line line) ≡ false) × (is_wrong (header_line line) ≡ false)
says_plain line (inl i) = rw (idle_only line i) (refl, refl)
says_plain line (inr (name, n, g)) = rw (gives_only name n line g) (refl, refl)

all_go : (lines : List (List ℕ)) → Each Says lines → Each (λ l. is_end (header_line l) ≡ false) lines
all_go [] s = tt
all_go (line ∷ lines) s = ((says_plain line s.0).0, all_go lines s.1)

none_wrong : (lines : List (List ℕ)) → Each Says lines → any_wrong (map header_line lines) ≡ false
unfolding any_wrong
none_wrong [] s = refl
none_wrong (line ∷ lines) s = rw (says_plain line s.0).1 (none_wrong lines s.1)

-- ---- of a file of the subset, what is read
module _ {file raster : List ℕ} {w h d : ℕ} (p : PamFile file w h d raster) where
  pam_cut : Cut (drop 3 file) p.lines p.last raster
  pam_cut = record { whole = ap (drop 3) p.whole; lone = p.lone; goes = all_go p.lines p.says; ends = ap is_end (end_only p.last p.ends) }

  pam_said : said_in file ≡ map header_line p.lines
  pam_said = (cut_only pam_cut).1

  pam_values : {name : Field} {n : ℕ} → Once name n p.lines → values_of name (said_in file) ≡ n ∷ []
  pam_values {name} {n} o = ap (values_of name) pam_said ∙ once_only name o

  pam_magic : magic file ≡ true
  unfolding magic same_text
  pam_magic = ap (λ (f : List ℕ). same_text (take 3 f) (text "P7\n")) p.whole

  pam_right : header_wrong file ≡ false
  unfolding header_wrong lines_wrong not_once
  pam_right =
      rw (
        pam_magic,
        (cut_only pam_cut).0,
        ap any_wrong pam_said ∙ none_wrong p.lines p.says,
        pam_values p.wide,
        pam_values p.high,
        pam_values p.deep,
        pam_values p.most,
        pam_values p.samples,
        eq-eqb d d refl,
      )

  pub pam_only : (header_wrong file ≡ false) × (width_of file ≡ w) × (height_of file ≡ h) × (depth_of file ≡ d) × (raster_of file ≡ raster)
  pam_only =
      (pam_right, ap the_one (pam_values p.wide), ap the_one (pam_values p.high), ap the_one (pam_values p.deep), (cut_only pam_cut).2)

-- ---- of a file that is read, what its bytes are

-- lines that do not end the header and are not wrong say nothing or give a value, and the line that ends it is ENDHDR's
all_say : (lines : List (List ℕ)) → Each (λ l. is_end (header_line l) ≡ false) lines → any_wrong (map header_line lines) ≡ false → Each Says lines
unfolding any_wrong
all_say [] g e = tt
all_say (line ∷ lines) g e =
    let (here, rest) = or_split (is_wrong (header_line line)) (any_wrong (map header_line lines)) e in
    (go (header_line line) (line_means line) g.0 here, all_say lines g.1 rest)
  where
    go : (x : HeaderLine) → Means line x → is_end x ≡ false → is_wrong x ≡ false → Says line
    go Ignored m p q = inl m
    go (Value name n) m p q = inr (name, n, m)
    go End m p q = absurd (clash refl p)
    go Wrong m p q = absurd (clash refl q)

end_alone : (line : List ℕ) → is_end (header_line line) ≡ true → Alone (text "ENDHDR") line
end_alone line e = go (header_line line) (line_means line) e
  where
    go : (x : HeaderLine) → Means line x → is_end x ≡ true → Alone (text "ENDHDR") line
    go Ignored m p = absurd (clash p refl)
    go (Value name n) m p = absurd (clash p refl)
    go End m p = m
    go Wrong m p = absurd (clash p refl)

-- tests of which none holds
abbrev any_of : Bool → List Bool → Bool
any_of t [] = t
any_of t (u ∷ us) = t || any_of u us

abbrev NoneOf : Bool → List Bool → Type 0
NoneOf t [] = t ≡ false
NoneOf t (u ∷ us) = (t ≡ false) × NoneOf u us

none_of : (t : Bool) (us : List Bool) → any_of t us ≡ false → NoneOf t us
none_of t [] e = e
none_of t (u ∷ us) e = let (p, q) = or_split t (any_of u us) e in (p, none_of u us q)

module _ (file : List ℕ) (e : header_wrong file ≡ false) where
  file_tests : NoneOf (not (magic file))
      (lines_wrong (lines_in file) ∷ not (eqb (value_in Maxval file) 255) ∷ not (eqb (value_in Depth file) (value_in TupleType file)) ∷ [])
  unfolding header_wrong
  file_tests =
      none_of (not (magic file))
      (lines_wrong (lines_in file) ∷ not (eqb (value_in Maxval file) 255) ∷ not (eqb (value_in Depth file) (value_in TupleType file)) ∷ []) e

  line_tests : NoneOf (not (ended (lines_in file))) (any_wrong (said_in file) ∷ not_once (said_in file) ∷ [])
  unfolding lines_wrong
  line_tests = none_of (not (ended (lines_in file))) (any_wrong (said_in file) ∷ not_once (said_in file) ∷ []) file_tests.1.0

  abbrev twice : Field → Bool
  twice name = not (is_one (values_of name (said_in file)))

  name_tests : NoneOf (twice Width) (twice Height ∷ twice Depth ∷ twice Maxval ∷ twice TupleType ∷ [])
  unfolding not_once
  name_tests = none_of (twice Width) (twice Height ∷ twice Depth ∷ twice Maxval ∷ twice TupleType ∷ []) line_tests.1.1

  begins : file ≡ text "P7\n" ++ drop 3 file
  unfolding magic
  begins =
      sym (take-append-drop 3 file)
      ∙ ap (λ (l : List ℕ). l ++ drop 3 file) (same_text→eq (take 3 file) (text "P7\n") (not-false (magic file) file_tests.0))

  pub pam_is : PamFile file (width_of file) (height_of file) (depth_of file) (raster_of file)
  pam_is =
      let (lines, last, raster, c) = cut_is (drop 3 file) (not-false (ended (lines_in file)) line_tests.0) in
      let (ending, tells, left) = cut_only c in
      let once : (name : Field) → twice name ≡ false → Once name (value_in name file) lines = λ name n.
      once_is name (value_in name file) lines
      (ap (values_of name) (sym tells) ∙ one_value (values_of name (said_in file)) (not-false (is_one (values_of name (said_in file))) n)) in
      record {
        lines = lines;
        last = last;
        whole = begins ∙ ap (λ (l : List ℕ). text "P7\n" ++ l) (c.whole ∙ ap (λ (l : List ℕ). joined lines ++ (last ++ (10 ∷ l))) (sym left));
        lone = c.lone;
        says = all_say lines c.goes (ap any_wrong (sym tells) ∙ line_tests.1.0);
        ends = end_alone last c.ends;
        wide = once Width name_tests.0;
        high = once Height name_tests.1.0;
        deep = once Depth name_tests.1.1.0;
        most = subst (λ (n : ℕ). Once Maxval n lines) (equals (value_in Maxval file) 255 file_tests.1.1.0) (once Maxval name_tests.1.1.1.0);
        samples = subst (λ (n : ℕ). Once TupleType n lines)
            (sym (equals (value_in Depth file) (value_in TupleType file) file_tests.1.1.1)) (once TupleType name_tests.1.1.1.1);
      }

-- ---- a file has at most one size, depth and raster
pub pam_one : {file raster raster' : List ℕ} {w h d w' h' d' : ℕ} → PamFile file w h d raster → PamFile file w' h' d' raster'
    → (w ≡ w') × (h ≡ h') × (d ≡ d') × (raster ≡ raster')
pam_one p q =
    let (a, w, h, d, r) = pam_only p in
    let (a', w', h', d', r') = pam_only q in
    (sym w ∙ w', sym h ∙ h', sym d ∙ d', sym r ∙ r')
