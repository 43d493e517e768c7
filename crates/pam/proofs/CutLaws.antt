-- Where a header ends: a file is cut into the lines before the first that says so, that line, and the bytes behind it (`cut_is`), and however it is cut so,
-- `ended`, `said` and `behind_end` tell of these lines and bytes (`cut_only`). Assumes nothing.
use mathlib.Core.Path.{◌≡◌, refl, sym, ap, ◌∙◌, subst}
use Prim.Native.Nat.{ℕ}
use borrow.Author.Tests.{eqb-true}
use mathlib.Core.Bool.{Bool, true, false, cond}
use mathlib.Core.List.{List, [], ◌∷◌, ◌++◌, map, append_assoc}
use lib.Dec.{T}
use Rattle.lists.specs.Order.{All}
use Rattle.lists.proofs.Bools.{clash, fails}
use Rattle.pam.specs.Text.{is_newline}
use Rattle.pam.specs.Lines.{Line, onto_line, lines_of}
use Rattle.pam.specs.Header.{header_line, is_end, ended, said, behind_end}
use Rattle.pam.specs.Subset.{Each, joined}
use Rattle.pam.proofs.LineLaws.{is_part, first_line}

-- bytes that are cut so
pub record Cut (bytes : List ℕ) (lines : List (List ℕ)) (last raster : List ℕ) : Type 0 where
  pub whole : bytes ≡ joined lines ++ (last ++ (10 ∷ raster))
  pub lone : Each (All is_part) lines × All is_part last
  pub goes : Each (λ l. is_end (header_line l) ≡ false) lines
  pub ends : is_end (header_line last) ≡ true

-- ---- what the lines of such bytes tell
abbrev Tells : List Line → List (List ℕ) → List ℕ → Type 0
Tells ls lines raster = (ended ls ≡ true) × (said ls ≡ map header_line lines) × (behind_end ls ≡ raster)

tells : (lines : List (List ℕ)) (last raster : List ℕ) → Each (All is_part) lines → All is_part last → Each (λ l. is_end (header_line l) ≡ false) lines
    → is_end (header_line last) ≡ true → Tells (lines_of (joined lines ++ (last ++ (10 ∷ raster)))) lines raster
unfolding ended said behind_end
tells [] last raster l a g e = rw (first_line last raster a, e) (refl, refl, refl)
tells (line ∷ lines) last raster l a g e =
    let (p, q, r) = tells lines last raster l.1 a g.1 e in
    rw (append_assoc, first_line line (joined lines ++ (last ++ (10 ∷ raster))) l.0, g.0) (p, ap (λ xs. header_line line ∷ xs) q, r)

pub cut_only : {bytes : List ℕ} {lines : List (List ℕ)} {last raster : List ℕ} → Cut bytes lines last raster → Tells (lines_of bytes) lines raster
cut_only {bytes} {lines} {last} {raster} c =
    subst (λ (s : List ℕ). Tells (lines_of s) lines raster) (sym c.whole) (tells lines last raster c.lone.0 c.lone.1 c.goes c.ends)

-- ---- such a cut, where a line ends the header

-- what lines are: bytes, a newline, and all bytes behind it, in which the next one is
abbrev Lined : List ℕ → List Line → Type 0
Lined s [] = Unit {0}
Lined s (l ∷ ls) = (s ≡ l.bytes ++ (10 ∷ l.behind)) × All is_part l.bytes × Lined l.behind ls

onto : (b : ℕ) (bs : List ℕ) (ls : List Line) → T (is_part b) → Lined bs ls → Lined (b ∷ bs) (onto_line b ls)
onto b bs [] p h = tt
onto b bs (l ∷ ls) p (e, a, r) = (ap (λ (s : List ℕ). b ∷ s) e, (p, a), r)

lined : (s : List ℕ) → Lined s (lines_of s)
unfolding lines_of is_newline
lined [] = tt
lined (b ∷ bs) = go (is_newline b) refl (lined bs)
  where
    go : (t : Bool) → is_newline b ≡ t → Lined bs (lines_of bs)
        → Lined (b ∷ bs) (cond t (record { bytes = []; behind = bs } ∷ lines_of bs) (onto_line b (lines_of bs)))
    go true e h = (ap (λ (x : ℕ). x ∷ bs) (eqb-true b 10 e), tt, h)
    go false e h = onto b bs (lines_of bs) (fails e) h

abbrev Cuts : List ℕ → Type 0
Cuts s = (lines : List (List ℕ)) × (last : List ℕ) × (raster : List ℕ) × Cut s lines last raster

cuts : (ls : List Line) (s : List ℕ) → Lined s ls → ended ls ≡ true → Cuts s
unfolding ended
cuts [] s h e = absurd (clash e refl)
cuts (l ∷ ls) s (w, a, r) e = go (is_end (header_line l.bytes)) refl e (cuts ls l.behind r)
  where
    go : (t : Bool) → is_end (header_line l.bytes) ≡ t → cond t true (ended ls) ≡ true → (ended ls ≡ true → Cuts l.behind) → Cuts s
    go true q e f = ([], l.bytes, l.behind, record { whole = w; lone = (tt, a); goes = tt; ends = q })
    go false q e f =
        let (lines, last, raster, c) = f e in (
          l.bytes ∷ lines,
          last,
          raster,
          record {
            whole = w ∙ ap (λ (x : List ℕ). l.bytes ++ (10 ∷ x)) c.whole ∙ sym (append_assoc l.bytes (10 ∷ joined lines) (last ++ (10 ∷ raster)));
            lone = ((a, c.lone.0), c.lone.1);
            goes = (q, c.goes);
            ends = c.ends;
          },
        )

pub cut_is : (s : List ℕ) → ended (lines_of s) ≡ true → (lines : List (List ℕ)) × (last : List ℕ) × (raster : List ℕ) × Cut s lines last raster
cut_is s e = cuts (lines_of s) s (lined s) e
