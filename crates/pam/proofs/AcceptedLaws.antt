-- What an acceptance tells: of a size, that it has pixels and is within its bounds (`sides_accepted`). What it tells and what it takes: of a picture that is
-- to be written, that the lengths fit its size too (`write_accepted`, `write_accepts`); of a file that is to be read, that its header is right, and its raster
-- and the buffer have the lengths (`read_accepted`, `read_accepts`). Assumes nothing.
use mathlib.Core.Path.{◌≡◌, ap}
use mathlib.Core.Bool.{false, not}
use mathlib.Core.List.{List}
use Prim.Native.Nat.{ℕ, ◌*◌}
use borrow.Author.Tests.{eq-eqb}
use lib.Dec.{eqb}
use lib.ListN.{length}
use Rattle.lists.proofs.Bools.{or_split, equals}
use Rattle.picture.specs.Bounds.{size_wrong}
use Rattle.replies.specs.Replies.{Reply, ◌if◌, first_reply}
use Rattle.replies.proofs.ReplyLaws.{reply_none, reply_zero}
use Rattle.pam.specs.Header.{header_wrong, width_of, height_of, depth_of, raster_of}
use Rattle.pam.specs.Pam.{no_pixels, pam_length, raster_wrong, buffers_wrong, length_replies, read_replies, write_replies}

pub sides_accepted : (width height : ℕ) → first_reply (length_replies width height) ≡ 0 → (no_pixels width height ≡ false) × (size_wrong width height ≡ false)
sides_accepted width height e = let r = reply_none (length_replies width height) tt e in (r.0, r.1.0)

pub buffers_fit : (width height pixels file : ℕ) → buffers_wrong width height pixels file ≡ false
    → (pixels ≡ 4 * (width * height)) × (file ≡ pam_length width height)
unfolding buffers_wrong
buffers_fit width height pixels file e =
    let r = or_split (not (eqb pixels (4 * (width * height)))) (not (eqb file (pam_length width height))) e in
    (equals pixels (4 * (width * height)) r.0, equals file (pam_length width height) r.1)

module _ (width height : ℕ) (pixels file : List ℕ) where
  abbrev lengths : Reply
  lengths = 3 if buffers_wrong width height (length pixels) (length file)

  pub write_accepted : first_reply (write_replies width height pixels file) ≡ 0
      → (no_pixels width height ≡ false) × (size_wrong width height ≡ false) × (length pixels ≡ 4 * (width * height)) × (length file ≡ pam_length width height)
  write_accepted e =
      let r = reply_none (write_replies width height pixels file) tt e in
      let b = buffers_fit width height (length pixels) (length file) r.1.1.0 in
      (r.0, r.1.0, b.0, b.1)

  module _ (e : first_reply (length_replies width height) ≡ 0) where
    -- nothing is refused
    pub none_refuse : buffers_wrong width height (length pixels) (length file) ≡ false → first_reply (write_replies width height pixels file) ≡ 0
    none_refuse w = let r = sides_accepted width height e in reply_zero (write_replies width height pixels file) (r.0, (r.1, (w, tt)))

  pub write_accepts : no_pixels width height ≡ false → size_wrong width height ≡ false → length pixels ≡ 4 * (width * height)
      → length file ≡ pam_length width height → first_reply (write_replies width height pixels file) ≡ 0
  unfolding buffers_wrong
  write_accepts n s p f =
      none_refuse (reply_zero (length_replies width height) (n, (s, tt)))
      (rw (eq-eqb (length pixels) (4 * (width * height)) p, eq-eqb (length file) (pam_length width height) f))

-- ---- reading
module _ (file pixels : List ℕ) where
  -- all that is asked of a file and a buffer for its pixels
  pub record Readable : Type 0 where
    pub header : header_wrong file ≡ false
    pub some : no_pixels (width_of file) (height_of file) ≡ false
    pub bounded : size_wrong (width_of file) (height_of file) ≡ false
    pub whole : length (raster_of file) ≡ depth_of file * (width_of file * height_of file)
    pub room : length pixels ≡ 4 * (width_of file * height_of file)

  pub read_accepted : first_reply (read_replies file pixels) ≡ 0 → Readable
  unfolding raster_wrong
  read_accepted e =
      let r = reply_none (read_replies file pixels) tt e in
      let a = or_split (header_wrong file) (no_pixels (width_of file) (height_of file)) r.0 in
      record {
        header = a.0;
        some = a.1;
        bounded = r.1.0;
        whole = equals (length (raster_of file)) (depth_of file * (width_of file * height_of file)) r.1.1.0;
        room = equals (length pixels) (4 * (width_of file * height_of file)) r.1.1.1.0;
      }

  pub read_accepts : Readable → first_reply (read_replies file pixels) ≡ 0
  unfolding raster_wrong
  read_accepts a =
      reply_zero (read_replies file pixels) (
        rw a.header a.some,
        (
          a.bounded,
          (
            ap not (eq-eqb (length (raster_of file)) (depth_of file * (width_of file * height_of file)) a.whole),
            (ap not (eq-eqb (length pixels) (4 * (width_of file * height_of file)) a.room), tt),
          ),
        ),
      )
