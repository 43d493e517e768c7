-- Reading and writing a PAM file: its pixels, the one form that is written, and what the four calls promise. Definitions only.
-- Written from document 02, Ask 1, and the PAM document, "THE LAYOUT": "The raster consists of each row of the image, in order from top to bottom".
use Rattle.std.specs.Prelude.{◌≡◌, ℕ, zero, suc, ◌+◌, ◌*◌, ◌/◌, ◌%◌, Bool, cond, not, ◌||◌, List, [], ◌∷◌, ◌++◌, eqb, ltb, length, get_or, Result}
use Rattle.lists.specs.Gather.{gather}
use Rattle.picture.specs.Bounds.{size_wrong}
use Rattle.replies.specs.Replies.{Reply, ◌if◌, after}
use Rattle.replies.specs.Refusals.{number_of, Answered}
use Rattle.replies.specs.declared.Refusal.{Refusal}
use Rattle.pam.specs.Text.{text}
use Rattle.pam.specs.Header.{header_wrong, width_of, height_of, depth_of, raster_of}
use Rattle.pam.specs.declared.Size.{Size}

-- ---- pixels

-- pixel i of a raster with so many samples a pixel: red, green, blue, and alpha where there is a fourth sample, else 255
unfoldable pub pixel_at : ℕ → List ℕ → ℕ → List ℕ
pixel_at depth raster i =
    get_or raster (depth * i) 0
    ∷ get_or raster (depth * i + 1) 0
    ∷ get_or raster (depth * i + 2) 0
    ∷ cond (eqb depth 4) (get_or raster (depth * i + 3) 0) 255
    ∷ []

-- the pixels of a file, four bytes each
abbrev pub pixels_of : List ℕ → List ℕ
pixels_of file = gather (width_of file * height_of file) (pixel_at (depth_of file) (raster_of file))

-- ---- the one form that is written

-- the digits of a number that has at most k more than one, without leading zeros
unfoldable pub decimals : ℕ → ℕ → List ℕ
decimals zero n = (48 + n) ∷ []
decimals (suc k) n = cond (ltb n 10) ((48 + n) ∷ []) (decimals k (n / 10) ++ ((48 + n % 10) ∷ []))

-- a side's: at most 4096, four digits (proofs/DecimalLaws: they give the number)
unfoldable pub decimal : ℕ → List ℕ
decimal n = decimals 3 n

-- "the writer has one order: WIDTH, HEIGHT, DEPTH, MAXVAL, TUPLTYPE, ENDHDR, always DEPTH 4"
unfoldable pub header_text : (width height : ℕ) → List ℕ
header_text width height =
    text "P7\nWIDTH "
    ++ decimal width
    ++ text "\nHEIGHT "
    ++ decimal height
    ++ text "\nDEPTH 4\nMAXVAL 255\nTUPLTYPE RGB_ALPHA\nENDHDR\n"

unfoldable pub pam_of : (width height : ℕ) → List ℕ → List ℕ
pam_of width height pixels = header_text width height ++ pixels

unfoldable pub pam_length : (width height : ℕ) → ℕ
pam_length width height = length (header_text width height) + 4 * (width * height)

-- ---- replies, in the order of document 02: 10 "directly before 2", 11 "directly after 2"

-- "a picture with no pixels"
unfoldable pub no_pixels : (width height : ℕ) → Bool
no_pixels width height = eqb width 0 || eqb height 0

-- "pixels missing or left over"
unfoldable pub raster_wrong : List ℕ → Bool
raster_wrong file = not (eqb (length (raster_of file)) (depth_of file * (width_of file * height_of file)))

abbrev pub size_replies : List ℕ → List Reply
size_replies file =
    10 if (header_wrong file || no_pixels (width_of file) (height_of file))
    ∷ 2 if size_wrong (width_of file) (height_of file)
    ∷ 11 if raster_wrong file
    ∷ []

abbrev pub read_replies : (file pixels : List ℕ) → List Reply
read_replies file pixels = size_replies file ++ (3 if not (eqb (length pixels) (4 * (width_of file * height_of file))) ∷ [])

abbrev pub length_replies : (width height : ℕ) → List Reply
length_replies width height = 10 if no_pixels width height ∷ 2 if size_wrong width height ∷ []

-- the pixels or the buffer for the file have another length than the size needs
unfoldable pub buffers_wrong : (width height pixels file : ℕ) → Bool
buffers_wrong width height pixels file = not (eqb pixels (4 * (width * height))) || not (eqb file (pam_length width height))

abbrev pub write_replies : (width height : ℕ) → (pixels file : List ℕ) → List Reply
write_replies width height pixels file =
    length_replies width height
    ++ (3 if buffers_wrong width height (length pixels) (length file) ∷ [])

-- ---- the promises

-- a file's size
abbrev pub size_of : List ℕ → Size
size_of file = record { width = width_of file; height = height_of file }

-- what `pam_size` promises of its answer r
abbrev pub PamSized : List ℕ → Result Size Refusal → Type 0
PamSized file r = Answered (size_replies file) (size_of file) r

-- what `read_pam` answers and leaves: r, and the pixels after its number, which held `pixels₀`
pub record PamRead (file pixels₀ : List ℕ) (r : Result Size Refusal) (pixels : List ℕ) : Type 0 where
  pub answer : Answered (read_replies file pixels₀) (size_of file) r
  pub picture : pixels ≡ after (number_of r) (pixels_of file) pixels₀

-- what `pam_length` promises of its answer r
abbrev pub PamMeasured : (width height : ℕ) → Result ℕ Refusal → Type 0
PamMeasured width height r = Answered (length_replies width height) (pam_length width height) r

-- what `write_pam` answers and leaves: r, and the file after its number, which held `file₀`
pub record PamWritten (width height : ℕ) (pixels file₀ : List ℕ) (r : Result (Unit {0}) Refusal) (file : List ℕ) : Type 0 where
  pub answer : Answered (write_replies width height pixels file₀) tt r
  pub whole : file ≡ after (number_of r) (pam_of width height pixels) file₀
