-- The one form that is written: how long its header and the whole file are. Assumes nothing.
use mathlib.Core.Path.{◌≡◌, refl}
use mathlib.Core.List.{List, ◌++◌}
use Prim.Native.Nat.{ℕ, ◌+◌}
use native.Mathlib.Omega.{arith}
use lib.ListN.{length, length-append}
use Rattle.pam.specs.Text.{text}
use Rattle.pam.specs.Pam.{decimal, header_text, pam_of}

-- ---- the header's pieces, one behind another
abbrev pub to_width : List ℕ
to_width = text "P7\nWIDTH "

abbrev pub to_height : List ℕ
to_height = text "\nHEIGHT "

abbrev pub to_end : List ℕ
to_end = text "\nDEPTH 4\nMAXVAL 255\nTUPLTYPE RGB_ALPHA\nENDHDR\n"

pub header_pieces : (width height : ℕ) → header_text width height ≡ to_width ++ decimal width ++ to_height ++ decimal height ++ to_end
unfolding header_text
header_pieces width height = refl

pub header_long : (width height : ℕ) → length (header_text width height) ≡ 63 + length (decimal width) + length (decimal height)
unfolding header_text
header_long width height = simp length-append (omega arith)

pub pam_long : (width height : ℕ) (pixels : List ℕ) → length (pam_of width height pixels) ≡ length (header_text width height) + length pixels
unfolding pam_of
pam_long width height pixels = length-append (header_text width height) pixels
