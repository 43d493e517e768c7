-- Small files and what the definitions make of them, by computation: lines in another order with comments, blank lines and white space; and one file for each
-- refusal, among them those where two apply. Assumes nothing.
use mathlib.Core.Path.{◌≡◌, refl}
use mathlib.Core.List.{List, [], ◌∷◌, ◌++◌, map}
use Prim.Native.Nat.{ℕ}
use Prim.Native.String.{String}
use Rattle.lists.specs.Gather.{gather}
use Rattle.picture.specs.Bounds.{size_wrong}
use Rattle.replies.specs.Replies.{first_reply}
use Rattle.pam.specs.Text.{text, is_newline, is_white, is_digit, is_number, value_from}
use Rattle.pam.specs.Lines.{lines_of, tokens}
use Rattle.pam.specs.Header.{number_line, type_line, field_line, tokens_line, header_line, ended, said, behind_end, any_wrong, values_of, not_once}
use Rattle.pam.specs.Header.{magic, lines_wrong, header_wrong, width_of, height_of}
use Rattle.pam.specs.Pam.{pixel_at, pixels_of, decimals, decimal, header_text, pam_of, no_pixels, raster_wrong, size_replies}

-- two pixels of RGB: any order, a comment that looks like a line, a blank line, a tab, leading zeros; ENDHDR in the raster is a colour
rgb : List ℕ
rgb = text "P7\nTUPLTYPE \tRGB \nHEIGHT 1\n#WIDTH 9\n\n MAXVAL 0255\nDEPTH 3\nWIDTH 002\r\nENDHDR\nENDHDR"

rgb_read : (first_reply (size_replies rgb) ≡ 0) × (width_of rgb ≡ 2) × (height_of rgb ≡ 1)
    × (pixels_of rgb ≡ 69 ∷ 78 ∷ 68 ∷ 255 ∷ 72 ∷ 68 ∷ 82 ∷ 255 ∷ [])
unfolding
    rgb gather pixel_at is_newline is_white is_digit is_number value_from lines_of tokens number_line type_line field_line tokens_line
    header_line ended said behind_end any_wrong values_of not_once magic lines_wrong header_wrong no_pixels raster_wrong size_wrong
rgb_read = (refl, refl, refl, refl)

-- a file of a header's lines, with one pixel of four samples
one : String → List ℕ
one lines = text "P7\n" ++ (text lines ++ text "\nENDHDR\nrgba")

refused : List (List ℕ)
refused =
    one "WIDTH 1\nHEIGHT 1\nDEPTH 4\nTUPLTYPE RGB_ALPHA"
    ∷ one "WIDTH 1\nHEIGHT 1\nDEPTH 4\nMAXVAL 255\nTUPLTYPE RGB_ALPHA\nWIDTH 1"
    ∷ one "WIDTH 1\nHEIGHT 1\nDEPTH 4\nMAXVAL 255\nTUPLTYPE RGB_ALPHA\n #"
    ∷ one "WIDTH +1\nHEIGHT 1\nDEPTH 4\nMAXVAL 255\nTUPLTYPE RGB_ALPHA"
    ∷ one "WIDTH 1 1\nHEIGHT 1\nDEPTH 4\nMAXVAL 255\nTUPLTYPE RGB_ALPHA"
    ∷ one "WIDTH 1\nHEIGHT 1\nDEPTH 4\nMAXVAL 255\nTUPLTYPE RGB"
    ∷ one "WIDTH 0\nHEIGHT 5000\nDEPTH 4\nMAXVAL 255\nTUPLTYPE RGB_ALPHA"
    ∷ one "WIDTH 5000\nHEIGHT 1\nDEPTH 4\nMAXVAL 255\nTUPLTYPE RGB_ALPHA\nwrong"
    ∷ one "WIDTH 1000000000000000000000000000000000000001\nHEIGHT 1\nDEPTH 4\nMAXVAL 255\nTUPLTYPE RGB_ALPHA"
    ∷ one "WIDTH 1\nHEIGHT 2\nDEPTH 4\nMAXVAL 255\nTUPLTYPE RGB_ALPHA"
    ∷ (one "WIDTH 1\nHEIGHT 1\nDEPTH 4\nMAXVAL 255\nTUPLTYPE RGB_ALPHA" ++ text "P7\n")
    ∷ text "P7\nWIDTH 1\nHEIGHT 1\nDEPTH 4\nMAXVAL 255\nTUPLTYPE RGB_ALPHA\nENDHDR"
    ∷ text "P7 \nWIDTH 1\nHEIGHT 1\nDEPTH 4\nMAXVAL 255\nTUPLTYPE RGB_ALPHA\nENDHDR\nrgba"
    ∷ []

refused_by : map (λ (file : List ℕ). first_reply (size_replies file)) refused
    ≡ 10 ∷ 10 ∷ 10 ∷ 10 ∷ 10 ∷ 10 ∷ 10 ∷ 10 ∷ 2 ∷ 11 ∷ 11 ∷ 10 ∷ 10 ∷ []
unfolding
    refused one is_newline is_white is_digit is_number value_from lines_of tokens number_line type_line field_line tokens_line
    header_line ended said behind_end any_wrong values_of not_once magic lines_wrong header_wrong no_pixels raster_wrong size_wrong
refused_by = refl

-- what is written
badge_written : pam_of 1 12 (text "..") ≡ text "P7\nWIDTH 1\nHEIGHT 12\nDEPTH 4\nMAXVAL 255\nTUPLTYPE RGB_ALPHA\nENDHDR\n.."
unfolding pam_of header_text decimal decimals
badge_written = refl
