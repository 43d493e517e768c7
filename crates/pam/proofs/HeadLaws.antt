-- The header of a file as it is read: refused for its magic number, for its lines or for its values, else what the values give. Assumes nothing.
use mathlib.Core.Path.{◌≡◌, refl, sym}
use mathlib.Core.Bool.{Bool, true, false}
use mathlib.Core.List.{List}
use Prim.Native.Nat.{ℕ}
use lib.Dec.{eqb}
use lib.ListN.{take, drop}
use Rattle.std.specs.Prelude.{Option, None, Some, MatchOption}
use Rattle.std.specs.Cmp.Lexicographic.{pointwise}
use Rattle.pam.specs.declared.Size.{Size}
use Rattle.pam.specs.declared.header.Header.{Header}
use Rattle.pam.specs.Text.{text}
use Rattle.pam.specs.Lines.{lines_of}
use Rattle.pam.specs.Header.{magic, header_wrong, lines_wrong}
use Rattle.pam.specs.Reading.{LinesRead, Whole, Broken, HeaderRead}
use Rattle.pam.proofs.TextLaws.{same_told}
use Rattle.pam.proofs.GivenLaws.{header_right, right_header, right_whole, whole_right, whole_wide, whole_high, whole_deep}

module _ (file : List ℕ) where
  -- ---- the magic number

  pub magic_told : (t : Bool) (front : List ℕ) → front ≡ text "P7\n" → pointwise eqb (take 3 file) front ≡ t → magic file ≡ t
  unfolding magic
  magic_told t front e p = same_told (take 3 file) front (text "P7\n") (sym p) e

  pub no_magic : magic file ≡ false → header_wrong file ≡ true
  unfolding header_wrong
  no_magic e = rw e

  module _ (m : magic file ≡ true) (lines : List ℕ) (at : lines ≡ drop 3 file) where
    -- ---- the lines

    pub no_lines : lines_wrong (lines_of lines) ≡ true → header_wrong file ≡ true
    unfolding header_wrong
    no_lines e = rw (m, rw at at e)

    -- ---- the values

    module _ (values : List (Option ℕ)) (raster : List ℕ) (rd : LinesRead lines values raster) where
      read : LinesRead (drop 3 file) values raster
      read = rw at at rd

      no_values : Broken values → header_wrong file ≡ true
      no_values broken = go (header_wrong file) refl
        where
          go : (t : Bool) → header_wrong file ≡ t → t ≡ true
          go true e = refl
          go false e = absurd (broken _ _ (right_whole file m values raster read (header_right file e)))

      header_is : (size : Size) (depth : ℕ) → Whole values size depth → HeaderRead file size depth raster
      header_is size depth w =
          let deep = whole_deep file m values raster read size depth w in
          record {
            right = right_header file m values raster read (whole_right file m values raster read size depth w);
            wide = whole_wide file m values raster read size depth w;
            high = whole_high file m values raster read size depth w;
            deep = deep.0;
            samples = (deep.1, deep.2);
            behind = read.behind;
          }

      pub header_told : (r : Option Header) → MatchOption r (Broken values) (λ h. Whole values h.size h.depth × (h.raster.now ≡ raster))
          → MatchOption r (header_wrong file ≡ true) (λ h. HeaderRead file h.size h.depth h.raster.now)
      header_told None broken = no_values broken
      header_told (Some h) w = rw w.1 (header_is h.size h.depth w.0)
