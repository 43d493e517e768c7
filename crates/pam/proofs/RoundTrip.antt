-- Reading what was written. What `pam_of` makes is a PAM file of the subset, of the size and pixels that it is made of (`written`); so whatever is written is
-- read back (`read_back`), and what any file gives, of three samples a pixel too, is written and read again as it was (`read_again`). The same is said of
-- what the calls answer and leave (`calls_back`, `calls_again`). Assumes nothing.
use mathlib.Core.Path.{◌≡◌, refl, sym, ap, ◌∙◌, subst}
use mathlib.Core.Logic.{inr}
use mathlib.Core.Bool.{false}
use mathlib.Core.List.{List, [], ◌∷◌, ◌++◌, map, append-nil, append_assoc}
use Prim.Native.Nat.{ℕ, ◌*◌, ◌<◌}
use native.Mathlib.Omega.{arith}
use borrow.Author.Tests.{ne_eqb}
use lib.Dec.{T}
use lib.ListN.{length, replicate, length-replicate}
use Rattle.lists.specs.Order.{All}
use Rattle.lists.specs.Gather.{gather}
use Rattle.lists.proofs.Bools.{fails}
use Rattle.lists.proofs.Computed.{all}
use Rattle.lists.proofs.OrderLaws.{all_append}
use Rattle.lists.proofs.GatherLaws.{gather-length}
use Rattle.picture.specs.Bounds.{size_wrong}
use Rattle.picture.proofs.BoundLaws.{sized}
use Rattle.std.specs.Prelude.{Result, Ok}
use Rattle.replies.specs.Replies.{first_reply, after}
use Rattle.replies.specs.Refusals.{number_of, answer}
use Rattle.replies.specs.declared.Refusal.{Refusal}
use Rattle.pam.specs.Text.{text, is_newline, is_white, is_digit}
use Rattle.pam.specs.declared.header.HeaderLine.{HeaderLine}
use Rattle.pam.specs.declared.header.HeaderLine.TheVariants.{Value}
use Rattle.pam.specs.declared.header.Field.{Field}
use Rattle.pam.specs.declared.header.Field.TheVariants.{Width, Height, Depth, Maxval, TupleType}
use Rattle.pam.specs.Header.{header_line, values_of, width_of, height_of, depth_of, raster_of}
use Rattle.pam.specs.Subset.{Number, Worth, Gives, Each, Says, Once, name_text, joined, PamFile}
use Rattle.pam.specs.declared.Size.{Size}
use Rattle.pam.specs.Pam.{decimals, decimal, header_text, pam_of, pam_length, pixel_at, pixels_of, no_pixels, read_replies, write_replies}
use Rattle.pam.specs.Pam.{size_of, PamRead, PamWritten}
use Rattle.pam.proofs.LineLaws.{is_part}
use Rattle.pam.proofs.PairLaws.{cons_some}
use Rattle.pam.proofs.NumberLaws.{all_of}
use Rattle.pam.proofs.MeaningLaws.{gives_only}
use Rattle.pam.proofs.OnceLaws.{once_is}
use Rattle.pam.proofs.SubsetLaws.{pam_only}
use Rattle.pam.proofs.RasterLaws.{pixel_long, four_samples}
use Rattle.pam.proofs.DecimalLaws.{digit_range, decimal_number}
use Rattle.pam.proofs.AcceptedLaws.{write_accepted, write_accepts, Readable, read_accepted, read_accepts}
use Rattle.pam.proofs.WrittenLaws.{to_width, to_height, to_end}

-- ---- the lines that are written: a name, a blank and a value

-- a number's
abbrev numbered : Field → ℕ → List ℕ
numbered name n = name_text name ++ (32 ∷ decimal n)

gives_number : (name : Field) (n : ℕ) → (Number n (decimal n) → Worth name n (decimal n)) → n < 10000 → Gives name n (numbered name n)
unfolding is_white
gives_number name n h l = record {
  value = decimal n;
  pair = record {
    before = [];
    between = 32 ∷ [];
    behind = [];
    spaced = (tt, (tt, tt), tt);
    apart = cons_some;
    whole = ap (λ (v : List ℕ). name_text name ++ (32 ∷ v)) (sym (append-nil (decimal n)));
  };
  worth = h (decimal_number n l);
}

gives_type : Gives TupleType 4 (text "TUPLTYPE RGB_ALPHA")
unfolding is_white
gives_type = record {
  value = text "RGB_ALPHA";
  pair = record { before = []; between = 32 ∷ []; behind = []; spaced = (tt, (tt, tt), tt); apart = cons_some; whole = refl };
  worth = inr (refl, refl);
}

-- no byte of them is a newline
digit_part : (b : ℕ) → T (is_digit b) → T (is_part b)
unfolding is_newline
digit_part b h = let r = digit_range b h in fails (ne_eqb b 10 (λ e. omega arith))

digits_parts : (ds : List ℕ) → All is_digit ds → All is_part ds
digits_parts [] a = tt
digits_parts (d ∷ ds) a = (digit_part d a.0, digits_parts ds a.1)

number_parts : (name : Field) (n : ℕ) → T (all is_part (name_text name)) → n < 10000 → All is_part (numbered name n)
unfolding is_newline
number_parts name n h l =
    all_append is_part (name_text name) (32 ∷ decimal n) (all_of is_part (name_text name) h) (tt, digits_parts (decimal n) (decimal_number n l).each)

-- the pieces that are written, as lines
regroup : (a b c d e f : List ℕ) → a ++ b ++ c ++ d ++ e ++ f ≡ a ++ (b ++ (c ++ (d ++ (e ++ f))))
regroup a b c d e f = simp append_assoc

as_lines : (a b c d e f : List ℕ) → a ++ ((b ++ (c ++ (d ++ e))) ++ f) ≡ a ++ (b ++ (c ++ (d ++ (e ++ f))))
as_lines a b c d e f = simp append_assoc

module _ (width height : ℕ) (w : width < 10000) (h : height < 10000) where
  abbrev lines : List (List ℕ)
  lines = numbered Width width ∷ numbered Height height ∷ text "DEPTH 4" ∷ text "MAXVAL 255" ∷ text "TUPLTYPE RGB_ALPHA" ∷ []

  wide : Gives Width width (numbered Width width)
  wide = gives_number Width width (λ d. d) w

  high : Gives Height height (numbered Height height)
  high = gives_number Height height (λ d. d) h

  deep : Gives Depth 4 (text "DEPTH 4")
  unfolding decimal decimals
  deep = gives_number Depth 4 (λ d. d) (omega arith)

  most : Gives Maxval 255 (text "MAXVAL 255")
  unfolding decimal decimals
  most = gives_number Maxval 255 (λ d. d) (omega arith)

  -- what they say
  abbrev meanings : List HeaderLine
  meanings = Value Width width ∷ Value Height height ∷ Value Depth 4 ∷ Value Maxval 255 ∷ Value TupleType 4 ∷ []

  said_is : map header_line lines ≡ meanings
  said_is =
      λ i. gives_only Width width _ wide i
      ∷ gives_only Height height _ high i
      ∷ gives_only Depth 4 _ deep i
      ∷ gives_only Maxval 255 _ most i
      ∷ gives_only TupleType 4 _ gives_type i
      ∷ []

  once : (name : Field) (n : ℕ) → values_of name meanings ≡ n ∷ [] → Once name n lines
  once name n e = once_is name n lines (ap (values_of name) said_is ∙ e)

  all_say : Each Says lines
  all_say = (
    inr (Width, width, wide),
    (inr (Height, height, high), (inr (Depth, 4, deep), (inr (Maxval, 255, most), (inr (TupleType, 4, gives_type), tt)))),
  )

  all_lone : Each (All is_part) lines
  unfolding is_newline
  all_lone = (
    number_parts Width width tt w,
    (
      number_parts Height height tt h,
      (all_of is_part (text "DEPTH 4") tt, (all_of is_part (text "MAXVAL 255") tt, (all_of is_part (text "TUPLTYPE RGB_ALPHA") tt, tt))),
    ),
  )

  whole_is : (pixels : List ℕ) → pam_of width height pixels ≡ text "P7\n" ++ (joined lines ++ (text "ENDHDR" ++ (10 ∷ pixels)))
  unfolding pam_of header_text
  whole_is pixels =
      let rest = joined (text "" ∷ text "DEPTH 4" ∷ text "MAXVAL 255" ∷ text "TUPLTYPE RGB_ALPHA" ∷ []) in
      regroup to_width (decimal width) to_height (decimal height) to_end pixels
      ∙ sym (as_lines to_width (decimal width) to_height (decimal height) rest (text "ENDHDR" ++ (10 ∷ pixels)))

  pub written_so : (pixels : List ℕ) → PamFile (pam_of width height pixels) width height 4 pixels
  unfolding is_newline values_of
  written_so pixels = record {
    lines = lines;
    last = text "ENDHDR";
    whole = whole_is pixels;
    lone = (all_lone, all_of is_part (text "ENDHDR") tt);
    says = all_say;
    ends = record { before = []; behind = []; spaced = (tt, tt); whole = refl };
    wide = once Width width refl;
    high = once Height height refl;
    deep = once Depth 4 refl;
    most = once Maxval 255 refl;
    samples = once TupleType 4 refl;
  }

pub written : (width height : ℕ) → size_wrong width height ≡ false → (pixels : List ℕ) → PamFile (pam_of width height pixels) width height 4 pixels
written width height s = let b = sized width height s in written_so width height (omega arith) (omega arith)

-- ---- what is read of a file of the subset
module _ {file raster : List ℕ} {width height depth : ℕ} (p : PamFile file width height depth raster) where
  pam_pixels : pixels_of file ≡ gather (width * height) (pixel_at depth raster)
  pam_pixels = let (a, w, h, d, r) = pam_only p in λ i. gather (w i * h i) (pixel_at (d i) (r i))

  pam_readable : (lent : List ℕ) → no_pixels width height ≡ false → size_wrong width height ≡ false → length raster ≡ depth * (width * height)
      → length lent ≡ 4 * (width * height) → Readable file lent
  pam_readable lent n s l room =
      let (a, w, h, d, r) = pam_only p in
      record {
        header = a;
        some = (λ i. no_pixels (w i) (h i)) ∙ n;
        bounded = (λ i. size_wrong (w i) (h i)) ∙ s;
        whole = ap length r ∙ l ∙ sym (λ i. d i * (w i * h i));
        room = room ∙ sym (λ i. 4 * (w i * h i));
      }

-- ---- what is written is read back
module _ (width height : ℕ) (pixels file : List ℕ) (e : first_reply (write_replies width height pixels file) ≡ 0) where
  abbrev made : List ℕ
  made = pam_of width height pixels

  pub read_back : (lent : List ℕ) → length lent ≡ 4 * (width * height)
      → (first_reply (read_replies made lent) ≡ 0) × (width_of made ≡ width) × (height_of made ≡ height) × (pixels_of made ≡ pixels)
  read_back lent room =
      let (n, s, l, f) = write_accepted width height pixels file e in
      let p = written width height s pixels in
      let (a, w, h, d, r) = pam_only p in
      (read_accepts made lent (pam_readable p lent n s l room), w, h, pam_pixels p ∙ sym (four_samples (width * height) pixels l))

-- ---- what a file gives is written, and read again as it was
module _ (file lent : List ℕ) (e : first_reply (read_replies file lent) ≡ 0) where
  abbrev anew : List ℕ
  anew = pam_of (width_of file) (height_of file) (pixels_of file)

  pub write_again : (out : List ℕ) → length out ≡ pam_length (width_of file) (height_of file)
      → first_reply (write_replies (width_of file) (height_of file) (pixels_of file) out) ≡ 0
  write_again out l =
      let a = read_accepted file lent e in
      write_accepts (width_of file) (height_of file) (pixels_of file) out a.some a.bounded
      (gather-length 4 (pixel_at (depth_of file) (raster_of file)) (pixel_long (depth_of file) (raster_of file)) (width_of file * height_of file)) l

  pub read_again : (lent' : List ℕ) → length lent' ≡ 4 * (width_of file * height_of file)
      → (first_reply (read_replies anew lent') ≡ 0) × (width_of anew ≡ width_of file) × (height_of anew ≡ height_of file) × (pixels_of anew ≡ pixels_of file)
  read_again lent' room =
      let out : List ℕ = replicate (pam_length (width_of file) (height_of file)) 0 in
      read_back (width_of file) (height_of file) (pixels_of file) out (write_again out (length-replicate (pam_length (width_of file) (height_of file)) 0)) lent' room

-- ---- the same of the calls' results

-- what is answered
abbrev Told : Type 0
Told = Result (Unit {0}) Refusal

abbrev sides : (width height : ℕ) → Size
sides width height = record { width = width; height = height }

-- an accepted file's size and pixels are what is read of it
read_so : {file lent pixels : List ℕ} {r : Result Size Refusal} → PamRead file lent r pixels → first_reply (read_replies file lent) ≡ 0
    → (r ≡ Ok (size_of file)) × (pixels ≡ pixels_of file)
read_so {file} {lent} {r = r} p e =
    let z : number_of r ≡ 0 = p.answer.number ∙ e in
    (p.answer.answer ∙ ap (answer (size_of file)) z, p.picture ∙ ap (λ (n : ℕ). after n (pixels_of file) lent) z)

-- what `write_pam` accepts, `read_pam` reads
pub calls_back : (width height : ℕ) (pixels file₀ file lent got : List ℕ) (r : Told) (s : Result Size Refusal) → PamWritten width height pixels file₀ r file
    → number_of r ≡ 0 → length lent ≡ 4 * (width * height) → PamRead file lent s got → (s ≡ Ok (sides width height)) × (got ≡ pixels)
calls_back width height pixels file₀ file lent got r s p z room q =
    let whole : file ≡ pam_of width height pixels = p.whole ∙ ap (λ (n : ℕ). after n (pam_of width height pixels) file₀) z in
    let (a, w, h, same) = read_back width height pixels file₀ (sym p.answer.number ∙ z) lent room in
    let (answer, picture) = read_so (subst (λ (f : List ℕ). PamRead f lent s got) whole q) a in
    (answer ∙ (λ i. Ok (sides (w i) (h i))), picture ∙ same)

-- what `read_pam` accepts, `write_pam` accepts, and `read_pam` reads again
pub calls_again : (file lent pixels : List ℕ) (width height : ℕ) → PamRead file lent (Ok (sides width height)) pixels → (out₀ out : List ℕ) (r : Told)
    → length out₀ ≡ pam_length width height → PamWritten width height pixels out₀ r out
    → (r ≡ Ok tt)
    × ((lent' got : List ℕ) (s : Result Size Refusal) → length lent' ≡ 4 * (width * height) → PamRead out lent' s got
    → (s ≡ Ok (sides width height)) × (got ≡ pixels))
calls_again file lent pixels width height p out₀ out r l q =
    let e : first_reply (read_replies file lent) ≡ 0 = sym p.answer.number in
    let (size, ep) = read_so p e in
    let same : sides width height ≡ size_of file = cc in
    let ew : width ≡ width_of file = ap (λ (s : Size). s.width) same in
    let eh : height ≡ height_of file = ap (λ (s : Size). s.height) same in
    let a : first_reply (write_replies width height pixels out₀) ≡ 0 =
    (λ i. first_reply (write_replies (ew i) (eh i) (ep i) out₀)) ∙ write_again file lent e out₀ (l ∙ (λ i. pam_length (ew i) (eh i))) in
    let z : number_of r ≡ 0 = q.answer.number ∙ a in
    (q.answer.answer ∙ ap (answer tt) z, λ lent' got s room t. calls_back width height pixels out₀ out lent' got r s q z room t)
