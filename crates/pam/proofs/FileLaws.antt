-- A file's refusals from its header as it was read: numbers that are kept up to the bound refuse what the numbers refuse, and where nothing is refused they
-- are the numbers. What an acceptance tells of a file. Assumes nothing.
use mathlib.Core.Path.{◌≡◌, refl, sym, ap, ◌∙◌}
use mathlib.Core.Bool.{Bool, true, false, not, ◌||◌}
use mathlib.Core.List.{List, [], ◌∷◌, ◌++◌}
use Prim.Native.Nat.{ℕ, ◌*◌, ◌≤◌}
use native.Mathlib.Nat.{mul-le-mul_right}
use native.Mathlib.Omega.{arith}
use borrow.Author.Tests.{eqb-true, eqb-false, eq-eqb, ne_eqb, ltb-true, ltb-false, lt-ltb, le-ltb}
use lib.Dec.{eqb, ltb}
use lib.ListN.{length}
use Rattle.lists.specs.Gather.{gather}
use Rattle.lists.proofs.Bools.{equals}
use Rattle.replies.specs.Replies.{Reply, ◌if◌, first_reply}
use Rattle.replies.proofs.ReplyLaws.{reply_none, reply_zero, reply_front, reply_at}
use Rattle.picture.specs.Bounds.{size_wrong}
use Rattle.picture.proofs.BoundLaws.{sized}
use Rattle.pam.specs.declared.Size.{Size}
use Rattle.pam.specs.Header.{width_of, height_of, depth_of, raster_of}
use Rattle.pam.specs.Pam.{no_pixels, raster_wrong, pixel_at, pixels_of, length_replies, size_replies, read_replies, size_of}
use Rattle.pam.specs.Reading.{capped, HeaderRead}
use Rattle.pam.proofs.AcceptedLaws.{sides_accepted}

-- ---- numbers up to the bound

capped_none : (n : ℕ) → eqb (capped n) 0 ≡ eqb n 0
capped_none n = go (eqb n 0) refl
  where
    go : (t : Bool) → eqb n 0 ≡ t → eqb (capped n) 0 ≡ t
    go true e = eq-eqb (capped n) 0 (omega (arith, eqb-true n 0 e))
    go false e = ne_eqb (capped n) 0 (λ z. eqb-false n 0 e (omega (arith, z)))

capped_pixels : (w h : ℕ) → no_pixels (capped w) (capped h) ≡ no_pixels w h
unfolding no_pixels
capped_pixels w h = rw (capped_none w, capped_none h)

capped_size : (w h : ℕ) → size_wrong (capped w) (capped h) ≡ size_wrong w h
unfolding size_wrong
capped_size w h = go (ltb 4096 w) refl (ltb 4096 h) refl
  where
    go : (s : Bool) → ltb 4096 w ≡ s → (t : Bool) → ltb 4096 h ≡ t
        → ltb 4096 (capped w) || (ltb 4096 (capped h) || ltb 1048576 (capped w * capped h)) ≡ s || (t || ltb 1048576 (w * h))
    go true e t f = rw (lt-ltb 4096 (capped w) (omega (arith, ltb-true 4096 w e)))
    go false e true f =
        rw (le-ltb 4096 (capped w) (omega (arith, ltb-false 4096 w e)), lt-ltb 4096 (capped h) (omega (arith, ltb-true 4096 h f)))
    go false e false f =
        let p : capped w ≡ w = omega (arith, ltb-false 4096 w e) in
        let q : capped h ≡ h = omega (arith, ltb-false 4096 h f) in
        rw (p, q, e, f)

-- ---- a file by its header

module _ (file : List ℕ) (size : Size) (depth : ℕ) (raster : List ℕ) (h : HeaderRead file size depth raster) where
  abbrev missing : Reply
  missing = 11 if raster_wrong file

  -- the refusals are those of the size, then that of the raster
  by_size : first_reply (size_replies file) ≡ first_reply (length_replies size.width size.height ++ (missing ∷ []))
  by_size = rw (h.right, h.wide, h.high, capped_pixels (width_of file) (height_of file), capped_size (width_of file) (height_of file))

  pub size_refused : {n : ℕ} → n ≡ first_reply (length_replies size.width size.height) → (n ≡ 0 → ⊥) → n ≡ first_reply (size_replies file)
  size_refused e some = e ∙ sym (reply_front (length_replies size.width size.height) (missing ∷ []) (λ z. some (e ∙ z))) ∙ sym by_size

  -- ---- the size is accepted
  module _ (e : 0 ≡ first_reply (length_replies size.width size.height)) where
    -- the header's numbers are those of the file, within their bounds
    pub record Sized : Type 0 where
      pub wide : size.width ≡ width_of file
      pub high : size.height ≡ height_of file
      pub most : size.width * size.height ≤ 1048576
      pub bytes : depth * (size.width * size.height) ≤ 4194304

    pub size_held : Sized
    size_held =
        let b = sized size.width size.height (sides_accepted size.width size.height (sym e)).1 in
        record {
          wide = omega (arith, h.wide, b.0);
          high = omega (arith, h.high, b.1);
          most = b.2;
          bytes = omega (arith, mul-le-mul_right (size.width * size.height) h.samples.1, b.2);
        }

    same_raster : raster_wrong file ≡ not (eqb (length raster) (depth * (size.width * size.height)))
    unfolding raster_wrong
    same_raster = rw (h.behind, h.deep, size_held.wide, size_held.high)

    pub raster_refused : (length raster ≡ depth * (size.width * size.height) → ⊥) → 11 ≡ first_reply (size_replies file)
    raster_refused other =
        sym (by_size ∙ reply_at (length_replies size.width size.height) missing []
        (reply_none (length_replies size.width size.height) tt (sym e)) (same_raster ∙ ap not (ne_eqb _ _ other)))

    pub file_accepted : length raster ≡ depth * (size.width * size.height) → 0 ≡ first_reply (size_replies file)
    file_accepted same =
        let s = sides_accepted size.width size.height (sym e) in
        sym (by_size ∙ reply_zero (length_replies size.width size.height ++ (missing ∷ []))
        (s.0, (s.1, (same_raster ∙ ap not (eq-eqb _ _ same), tt))))

-- ---- a file that is not refused

-- its header's numbers are the file's, within their bounds, and the raster is what is left of it
pub record Found (file : List ℕ) (size : Size) (depth : ℕ) (raster : List ℕ) : Type 0 where
  pub sides : size ≡ size_of file
  pub deep : depth ≡ depth_of file
  pub samples : (3 ≤ depth) × (depth ≤ 4)
  pub most : size.width * size.height ≤ 1048576
  pub behind : raster ≡ raster_of file
  pub whole : length raster ≡ depth * (size.width * size.height)

pub found : (file : List ℕ) (size : Size) (depth : ℕ) (raster : List ℕ) → HeaderRead file size depth raster → 0 ≡ first_reply (size_replies file)
    → Found file size depth raster
unfolding raster_wrong
found file size depth raster h e =
    let r = reply_none (size_replies file) tt (sym e) in
    let b = sized (width_of file) (height_of file) r.1.0 in
    let wide : size.width ≡ width_of file = omega (arith, h.wide, b.0) in
    let high : size.height ≡ height_of file = omega (arith, h.high, b.1) in
    let behind : raster ≡ raster_of file = sym h.behind in
    record {
      sides = λ i. record { width = wide i; height = high i };
      deep = h.deep;
      samples = h.samples;
      most = rw (wide, high) b.2;
      behind = behind;
      whole = rw (behind, h.deep, wide, high) (equals (length (raster_of file)) (depth_of file * (width_of file * height_of file)) r.1.1.0);
    }

-- ---- reading it into a buffer

module _ (file pixels : List ℕ) where
  abbrev room : Reply
  room = 3 if not (eqb (length pixels) (4 * (width_of file * height_of file)))

  module _ (size : Size) (depth : ℕ) (raster : List ℕ) (e : 0 ≡ first_reply (size_replies file)) (f : Found file size depth raster) where
    needs : 4 * (size.width * size.height) ≡ 4 * (width_of file * height_of file)
    needs = ap (λ (s : Size). 4 * (s.width * s.height)) f.sides

    pub room_refused : (length pixels ≡ 4 * (size.width * size.height) → ⊥) → 3 ≡ first_reply (read_replies file pixels)
    room_refused other =
        sym (reply_at (size_replies file) room [] (reply_none (size_replies file) tt (sym e))
        (ap not (ne_eqb _ _ (λ same. other (same ∙ sym needs)))))

    pub read_granted : length pixels ≡ 4 * (size.width * size.height) → first_reply (read_replies file pixels) ≡ 0
    read_granted same =
        let r = reply_none (size_replies file) tt (sym e) in
        reply_zero (read_replies file pixels) (r.0, (r.1.0, (r.1.1.0, (ap not (eq-eqb _ _ (same ∙ needs)), tt))))

    pub pixels_read : gather (size.width * size.height) (pixel_at depth raster) ≡ pixels_of file
    pixels_read = λ i. gather ((f.sides i).width * (f.sides i).height) (pixel_at (f.deep i) (f.behind i))
