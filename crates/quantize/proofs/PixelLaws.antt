-- An accepted picture, pixel by pixel: what stands at pixel i of its buffers (`index_byte`, `color_here`), and what that is for a transparent pixel
-- (`pixel_transparent`) and for another (`pixel_seen`: the first entry equal to its choice). Assumes nothing.
use mathlib.Core.Path.{◌≡◌, refl, sym, subst, ◌∙◌, ap}
use mathlib.Core.Bool.{Bool, true, false}
use mathlib.Core.List.{List, [], ◌∷◌}
use Prim.Native.Nat.{ℕ, ◌*◌, ◌<◌}
use native.Mathlib.Nat.{one-mul, add-zero}
use lib.Dec.{lit<}
use lib.ListN.{get_or}
use lib.IntN.{ℤ}
use Rattle.std.specs.Prelude.{Result, Ok}
use Rattle.replies.specs.Replies.{after}
use Rattle.lists.proofs.GatherLaws.{gather_at}
use Rattle.color.specs.Color.{normalized_at, reduced_at, transparent_normalized}
use Rattle.color.specs.Tables.{normalize_color}
use Rattle.picture.specs.Pixels.{is_seen}
use Rattle.drawing.specs.Drawing.{drawn}
use Rattle.drawing.specs.Finished.{finished_pixel}
use Rattle.drawing.proofs.CandidateLaws.{list_fit}
use Rattle.drawing.proofs.FinishedLaws as finished
use Rattle.replies.specs.Refusals.{number_of}
use Rattle.replies.specs.declared.Refusal.{Refusal}
use Rattle.quantize.specs.Quantize.{Commission, entries, size, quantizing, IndexOf, index_for, index_at, index_bytes, indices_of, pixels_of}
use Rattle.quantize.specs.Quantize.{Quantized}
use Rattle.quantize.proofs.IndexLaws.{index_is}
use Rattle.quantize.proofs.DrawnLaws.{chosen_among}

-- ---- what stands at pixel i
module _ {q : Commission} {indices₀ out₀ : List ℕ} {cells₀ : List ℤ} {r : Result Unit Refusal} {indices out : List ℕ} {cells : List ℤ}
    (p : Quantized q indices₀ out₀ cells₀ r indices out cells) (accepted : r ≡ Ok tt) (i : ℕ) (h : i < size q) where
  index_list : indices ≡ indices_of q
  index_list = p.index_buffer ∙ ap (λ (x : Result Unit Refusal). after (number_of x) (indices_of q) indices₀) accepted

  color_list : out ≡ pixels_of q
  color_list = p.picture ∙ ap (λ (x : Result Unit Refusal). after (number_of x) (pixels_of q) out₀) accepted

  pub index_byte : get_or indices i 0 ≡ index_at q i
  unfolding index_bytes
  index_byte =
      ap (λ (l : List ℕ). get_or l i 0) index_list
      ∙ ap (λ (m : ℕ). get_or (indices_of q) m 0) (sym (add-zero (1 * i) ∙ one-mul i))
      ∙ gather_at 1 (λ j. index_at q j ∷ []) (λ j. refl) 0 (size q) i 0 h (lit< tt)

  pub color_here : normalized_at out i ≡ finished_pixel (quantizing q) i
  color_here = ap (λ (l : List ℕ). normalized_at l i) color_list ∙ finished.pixel_here (quantizing q) i h

-- ---- what that is
module _ (q : Commission) (i : ℕ) where
  here : (seen : Bool) → is_seen (quantizing q).reduced i ≡ seen → index_at q i ≡ index_for q.palette (entries q) seen (drawn (quantizing q) i)
  here seen e = ap (λ (t : Bool). index_for q.palette (entries q) t (drawn (quantizing q) i)) e

  pub pixel_transparent : is_seen (quantizing q).reduced i ≡ false → (index_at q i ≡ 0) × (finished_pixel (quantizing q) i ≡ transparent_normalized)
  unfolding index_for
  pixel_transparent e = (here false e, finished.pixel_transparent (quantizing q) i e)

  -- where there is a palette, and the scale table holds bytes
  pub pixel_seen : 0 < entries q → ((k : ℕ) → get_or q.scale k 0 < 256) → is_seen (quantizing q).reduced i ≡ true
      → IndexOf q.palette (entries q) (drawn (quantizing q) i) (index_at q i)
      × (finished_pixel (quantizing q) i ≡ normalize_color q.scale (drawn (quantizing q) i))
  unfolding index_for
  pixel_seen some bytes e =
      let k = chosen_among q some (list_fit q.scale (reduced_at q.palette) (entries q) bytes) i e in (
        subst (IndexOf q.palette (entries q) (drawn (quantizing q) i)) (sym (here true e))
            (index_is q.palette (entries q) (drawn (quantizing q) i) k.0 k.1 (sym k.2)),
        finished.pixel_seen (quantizing q) i e,
      )
