-- A drawn picture at full precision: its finished choices are it (`finished_all`, and by what is lent `finished_lent`); what stands at a pixel (`pixel_here`), which is TRANSPARENT for a
-- transparent pixel (`pixel_transparent`), and for another its choice normalised (`pixel_seen`). A pixel that is not skipped is seen (`drawn_seen`), and where
-- there is no colour zero, one that is seen is not skipped (`seen_drawn`). Assumes nothing.
use mathlib.Core.Path.{◌≡◌, ◌∙◌, ap}
use mathlib.Core.Bool.{Bool, true, false, not}
use mathlib.Core.List.{List}
use Prim.Native.Nat.{ℕ, ◌*◌, ◌/◌, ◌<◌}
use native.Mathlib.Omega.{arith}
use lib.ListN.{length}
use borrow.Author.Tests.{not-true}
use Rattle.lists.proofs.Bools.{or_split}
use Rattle.lists.proofs.GatherLaws.{gather_same}
use Rattle.color.specs.declared.ReducedColor.{ReducedColor}
use Rattle.color.specs.Color.{is_transparent, normalized_at, reduced_at, bytes_of, transparent_normalized}
use Rattle.color.specs.Tables.{normalize_color}
use Rattle.color.proofs.PieceLaws.{rgba_gathered}
use Rattle.reducing.specs.Reduce.{least_alpha}
use Rattle.picture.specs.Pixels.{is_seen, seen_from}
use Rattle.picture.proofs.PixelLaws.{seen_from_lem}
use Rattle.std.specs.Prelude.{Option, None}
use Rattle.drawing.specs.declared.Ditherer.{Ditherer}
use Rattle.drawing.specs.Drawing.{Drawing, drawn}
use Rattle.drawing.specs.Lent.{is_skipped, Lent, drawing_of, reduced_bytes}
use Rattle.drawing.specs.Finished.{finished, finished_bytes, finished_pixel, finished_picture}
use Rattle.drawing.proofs.OutputLaws.{bytes_at, bytes_length}

module _ (d : Drawing) where
  finished_all : (chosen : List ℕ) → chosen ≡ reduced_bytes d
      → finished_bytes d.normalize (is_seen d.reduced) (reduced_at chosen) (d.width * d.height) ≡ finished_picture d
  unfolding finished_bytes
  finished_all chosen e =
      gather_same (d.width * d.height)
      (λ i h. ap (λ (c : ReducedColor). bytes_of (finished d.normalize (is_seen d.reduced i) c).0) (ap (λ (l : List ℕ). reduced_at l i) e ∙ bytes_at d i h))

  pub pixel_here : (i : ℕ) → i < d.width * d.height → normalized_at (finished_picture d) i ≡ finished_pixel d i
  unfolding finished_bytes
  pixel_here i h = λ t. record { 0 = rgba_gathered (λ j. (finished_pixel d j).0) (d.width * d.height) i h t }

  module _ (i : ℕ) where
    here : (seen : Bool) → is_seen d.reduced i ≡ seen → finished_pixel d i ≡ finished d.normalize seen (drawn d i)
    here seen e = ap (λ (t : Bool). finished d.normalize t (drawn d i)) e

    pub pixel_transparent : is_seen d.reduced i ≡ false → finished_pixel d i ≡ transparent_normalized
    unfolding finished
    pixel_transparent e = here false e

    pub pixel_seen : is_seen d.reduced i ≡ true → finished_pixel d i ≡ d.normalize (drawn d i)
    unfolding finished
    pixel_seen e = here true e

-- finished by what the code is lent: the pixels' own alphas say what is seen
pub finished_lent : (t : Ditherer) (zero : Option ReducedColor) (l : Lent) (least : ℕ) → least ≡ least_alpha l.reducing
    → (chosen : List ℕ) → chosen ≡ reduced_bytes (drawing_of t zero l)
    → finished_bytes (normalize_color l.scale) (seen_from least l.pixels) (reduced_at chosen) (length chosen / 4) ≡ finished_picture (drawing_of t zero l)
finished_lent t zero l least is chosen e =
    let counted : length chosen / 4 ≡ t.width * t.height = omega (arith, ap length e ∙ bytes_length (drawing_of t zero l)) in
    ap (finished_bytes (normalize_color l.scale) (seen_from least l.pixels) (reduced_at chosen)) counted
    ∙ ap (λ (seen : ℕ → Bool). finished_bytes (normalize_color l.scale) seen (reduced_at chosen) (t.width * t.height))
    (ap (λ (n : ℕ). seen_from n l.pixels) is ∙ seen_from_lem l.reducing l.reduction l.pixels l.opaque)
    ∙ finished_all (drawing_of t zero l) chosen e

-- ---- skipped, and seen
module _ (reduced : ℕ → ReducedColor) (i : ℕ) where
  pub drawn_seen : (zero : Option ReducedColor) → is_skipped zero (reduced i) ≡ false → is_seen reduced i ≡ true
  unfolding is_skipped is_seen
  drawn_seen zero s = ap not (or_split (is_transparent (reduced i).0) _ s).0

  pub seen_drawn : is_seen reduced i ≡ true → is_skipped None (reduced i) ≡ false
  unfolding is_skipped is_seen
  seen_drawn e = let t : is_transparent (reduced i).0 ≡ false = not-true _ e in rw t
