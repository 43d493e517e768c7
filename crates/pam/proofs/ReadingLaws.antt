-- The loop that reads a header's lines: from one line, by what it says, to the next, or to the answer. Assumes nothing.
use mathlib.Core.Path.{◌≡◌, refl, sym, ap, ◌∙◌, subst}
use mathlib.Core.Bool.{true}
use mathlib.Core.List.{List, [], ◌∷◌}
use Prim.Native.Nat.{ℕ}
use native.Mathlib.Omega.{arith}
use lib.ListN.{set}
use Rattle.std.specs.Prelude.{Option, None, Some}
use Rattle.pam.specs.declared.header.Field.{Field}
use Rattle.pam.specs.declared.header.HeaderLine.{HeaderLine}
use Rattle.pam.specs.declared.header.HeaderLine.TheVariants.{Ignored, Value, End, Wrong}
use Rattle.pam.specs.Lines.{Line, lines_of}
use Rattle.pam.specs.Header.{place, header_line, lines_wrong}
use Rattle.pam.specs.Reading.{capped, capped_line, Noted, LinesRead}
use Rattle.pam.proofs.SoFarLaws.{SoFar, Ended, far_ignored, far_valued, far_ended}
use Rattle.pam.proofs.RefusedLaws.{far_none, far_wrong, far_second}

-- ---- what a line says, from the same with its number kept up to the bound

says_ignored : (x : HeaderLine) → Ignored ≡ capped_line x → x ≡ Ignored
says_ignored Ignored e = refl
says_ignored (Value name n) e = cc
says_ignored End e = cc
says_ignored Wrong e = cc

says_end : (x : HeaderLine) → End ≡ capped_line x → x ≡ End
says_end Ignored e = cc
says_end (Value name n) e = cc
says_end End e = refl
says_end Wrong e = cc

says_wrong : (x : HeaderLine) → Wrong ≡ capped_line x → x ≡ Wrong
says_wrong Ignored e = cc
says_wrong (Value name n) e = cc
says_wrong End e = cc
says_wrong Wrong e = refl

says_value : (x : HeaderLine) (name : Field) (v : ℕ) → Value name v ≡ capped_line x → (n : ℕ) × (x ≡ Value name n) × (v ≡ capped n)
says_value Ignored name v e = absurd (let z : ◌≡◌ {A = ℕ} 0 1 = cc in omega arith)
says_value (Value other n) name v e = (n, cc, cc)
says_value End name v e = absurd (let z : ◌≡◌ {A = ℕ} 0 1 = cc in omega arith)
says_value Wrong name v e = absurd (let z : ◌≡◌ {A = ℕ} 0 1 = cc in omega arith)

-- ---- no line is left
pub read_none : (bytes rest : List ℕ) {values : List (Option ℕ)} → SoFar (lines_of bytes) (lines_of rest) values → lines_of rest ≡ []
    → lines_wrong (lines_of bytes) ≡ true
read_none bytes rest {values} s e = far_none (subst (λ (ls : List Line). SoFar (lines_of bytes) ls values) e s)

-- ---- a line more, and what is behind it
module _ (bytes rest line behind : List ℕ) {values : List (Option ℕ)} (s : SoFar (lines_of bytes) (lines_of rest) values)
    (cut : lines_of rest ≡ record { bytes = line; behind = behind } ∷ lines_of behind) where
  far : SoFar (lines_of bytes) (record { bytes = line; behind = behind } ∷ lines_of behind) values
  far = subst (λ (ls : List Line). SoFar (lines_of bytes) ls values) cut s

  pub read_ignored : Ignored ≡ capped_line (header_line line) → SoFar (lines_of bytes) (lines_of behind) values
  read_ignored e = far_ignored far (says_ignored (header_line line) e)

  pub read_wrong : Wrong ≡ capped_line (header_line line) → lines_wrong (lines_of bytes) ≡ true
  read_wrong e = far_wrong far (says_wrong (header_line line) e)

  pub read_end : End ≡ capped_line (header_line line) → LinesRead bytes values behind
  read_end e =
      let last : Ended far = far_ended far (says_end (header_line line) e) in
      record { ends = last.ends; right = last.right; found = last.found; behind = last.behind }

  module _ (name : Field) (v : ℕ) (e : Value name v ≡ capped_line (header_line line)) (now : List (Option ℕ)) where
    pub read_value : Noted values name v (Some tt) now → SoFar (lines_of bytes) (lines_of behind) now
    read_value h =
        let (n, says, same) = says_value (header_line line) name v e in
        subst (λ (vs : List (Option ℕ)). SoFar (lines_of bytes) (lines_of behind) vs)
        (ap (λ (k : ℕ). set values (place name) (Some k)) (sym same) ∙ sym h.1) (far_valued far name n says h.0)

    pub read_second : Noted values name v None now → lines_wrong (lines_of bytes) ≡ true
    read_second h =
        let (n, says, same) = says_value (header_line line) name v e in
        far_second far name n says h.0
