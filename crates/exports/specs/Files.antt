-- What the calls on PAM files answer through the C interface and leave behind their pointers and in their buffers: what the file or the picture gives on
-- acceptance, and otherwise what was there; the number is that of the first reply that applies, in document 02's order. The result is the definition that
-- has the call's name, and that it is so is the call's promise. Definitions only.
-- Written from document 02, Ask 1, and document 01, "Bounds and replies": "all unchanged".
use Rattle.std.specs.Prelude.{◌≡◌, ℕ, List, Result, Ok, Err}
use Rattle.replies.specs.declared.Refusal.{Refusal}
use Rattle.replies.specs.Replies.{first_reply, after}
use Rattle.replies.specs.Refusals.{number}
use Rattle.pam.specs.declared.Size.{Size}
use Rattle.pam.specs.Header.{width_of, height_of}
use Rattle.pam.specs.Pam.{pixels_of, pam_of, pam_length, size_replies, read_replies, length_replies, write_replies}

-- ---- what is left of an answer that is a size, behind pointers that held `width` and `height`
abbrev pub size_left : (width height : ℕ) → Result Size Refusal → ℕ × ℕ × ℕ
size_left width height (Ok size) = (0, size.width, size.height)
size_left width height (Err e) = (number e, width, height)

-- ---- `badge_pam_size`: the number, and the picture's size, behind pointers that held `width` and `height`
abbrev pub badge_pam_size : List ℕ → (width height : ℕ) → ℕ × ℕ × ℕ
badge_pam_size file width height =
    let n = first_reply (size_replies file) in
    (n, after n (width_of file) width, after n (height_of file) height)

abbrev pub PromisedPamSize : List ℕ → (width height : ℕ) → ℕ × ℕ × ℕ → Type 0
PromisedPamSize file width height left = left ≡ badge_pam_size file width height

-- ---- `badge_read_pam`: the number, the pixels in a buffer that held `pixels`, and the picture's size as above
abbrev pub badge_read_pam : (file pixels : List ℕ) → (width height : ℕ) → ℕ × List ℕ × ℕ × ℕ
badge_read_pam file pixels width height =
    let n = first_reply (read_replies file pixels) in
    (n, after n (pixels_of file) pixels, after n (width_of file) width, after n (height_of file) height)

abbrev pub PromisedReadPam : (file pixels : List ℕ) → (width height : ℕ) → ℕ × List ℕ × ℕ × ℕ → Type 0
PromisedReadPam file pixels width height left = left ≡ badge_read_pam file pixels width height

-- ---- `badge_pam_length`: the number, and how many bytes the picture's file takes
abbrev pub badge_pam_length : (width height was : ℕ) → ℕ × ℕ
badge_pam_length width height was =
    let n = first_reply (length_replies width height) in
    (n, after n (pam_length width height) was)

abbrev pub PromisedPamLength : (width height was : ℕ) → ℕ × ℕ → Type 0
PromisedPamLength width height was left = left ≡ badge_pam_length width height was

-- ---- `badge_write_pam`: the number, and the picture's file, in a buffer that held `file`
abbrev pub badge_write_pam : (width height : ℕ) → (pixels file : List ℕ) → ℕ × List ℕ
badge_write_pam width height pixels file =
    let n = first_reply (write_replies width height pixels file) in
    (n, after n (pam_of width height pixels) file)

abbrev pub PromisedWritePam : (width height : ℕ) → (pixels file : List ℕ) → ℕ × List ℕ → Type 0
PromisedWritePam width height pixels file left = left ≡ badge_write_pam width height pixels file
