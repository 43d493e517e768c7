-- An accepted picture, pixel by pixel: what stands at pixel i (`color_here`), which is TRANSPARENT or its choice normalised (drawing's `pixel_transparent`
-- and `pixel_seen`); what the choice is for a pixel of colour zero's rgb (`pixel_zero`: its own reduced colour), and that a dithered pixel's choice is a
-- candidate (`chosen_among`). Assumes nothing.
use mathlib.Core.Path.{◌≡◌, refl, ◌∙◌, ap}
use mathlib.Core.Bool.{Bool, true, false, ◌||◌}
use mathlib.Core.List.{List}
use Prim.Native.Nat.{ℕ, ◌<◌}
use lib.ListN.{get_or, length}
use Rattle.color.specs.Color.{normalized_at, is_transparent}
use Rattle.drawing.specs.Drawing.{Among}
use Rattle.drawing.specs.Lent.{is_zero, is_skipped}
use Rattle.drawing.specs.Finished.{finished_pixel}
use Rattle.drawing.proofs.DrawnLaws.{drawn_skipped}
use Rattle.drawing.proofs.CandidateLaws.{list_fit, drawn_candidate}
use Rattle.drawing.proofs.FinishedLaws.{pixel_here}
use Rattle.candidates.specs.Rooms.{candidate_at}
use Rattle.std.specs.Prelude.{Result}
use Rattle.dither.specs.declared.DitherError.{DitherError}
use Rattle.dither.specs.Mode.{Commission, basis_of, Buffers, size, reduced_of, candidate_list, dithering, chosen, pixels_of, number_of, out_after, DitheredToMode}
use Rattle.dither.proofs.CandidateLaws.{some_candidate}

-- ---- what stands at pixel i
module _ {q : Commission} {was then : Buffers} {r : Result ℕ DitherError} (p : DitheredToMode q was r then) (accepted : number_of r ≡ 0) where
  color_list : then.out ≡ pixels_of q
  unfolding out_after
  color_list = p.picture ∙ ap (out_after q was.out) accepted

  pub color_here : (i : ℕ) → i < size q → normalized_at then.out i ≡ finished_pixel (dithering q) i
  color_here i h = ap (λ (l : List ℕ). normalized_at l i) color_list ∙ pixel_here (dithering q) i h

-- ---- what was chosen
module _ (q : Commission) (i : ℕ) where
  -- a pixel of colour zero's rgb keeps its reduced colour
  pub pixel_zero : is_zero q.settings.zero (reduced_of q i) ≡ true → chosen q i ≡ reduced_of q i
  unfolding is_skipped
  pixel_zero e = drawn_skipped (dithering q) i (or_true (is_transparent (reduced_of q i).0) (is_zero q.settings.zero (reduced_of q i)) e)
    where
      or_true : (s t : Bool) → t ≡ true → s || t ≡ true
      or_true true t e = refl
      or_true false t e = e

  -- a dithered pixel's choice is a candidate, where the tables hold bytes
  pub chosen_among : ((v : ℕ) → get_or q.reduction v 0 < 256) → ((v : ℕ) → get_or q.scale v 0 < 256) → i < size q
      → is_skipped q.settings.zero (reduced_of q i) ≡ false → Among (dithering q).candidates (chosen q i)
  chosen_among reduces scales h s =
      drawn_candidate (dithering q) (some_candidate q.settings.zero q.settings.reducing q.reduction (basis_of q) (size q) reduces i h s)
      (list_fit q.scale (candidate_at (candidate_list q)) (length (candidate_list q)) scales).range i s
