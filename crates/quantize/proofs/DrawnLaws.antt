-- The picture that is drawn over the palette: the choice of a pixel that is seen is an entry (`chosen_among`), twins
-- of the palette are alike (`palette_alike`), and the positions of the choices are the picture's indices (`positions_are`). Assumes nothing.
use mathlib.Core.Path.{◌≡◌, refl, sym, subst, ◌∙◌, ap}
use mathlib.Core.Bool.{Bool, true, false, cond, not, ◌||◌}
use mathlib.Core.List.{List, [], ◌∷◌}
use Prim.Native.Nat.{ℕ, ◌*◌, ◌<◌}
use native.Mathlib.Omega.{arith}
use lib.ListN.{length}
use lib.IntN.{ℤ}
use lib.Ieee.{Float}
use Rattle.lists.proofs.GatherLaws.{gather_same}
use Rattle.color.specs.declared.ReducedColor.{ReducedColor}
use Rattle.color.specs.declared.Oklab.{Oklab}
use Rattle.color.specs.Color.{reduced_at, is_transparent}
use Rattle.color.specs.Tables.{normalize_color}
use Rattle.color.specs.Oklab.{oklab_at}
use Rattle.conversion.specs.Oklab.{to_oklab}
use Rattle.conversion.proofs.ListLaws.{list_at}
use Rattle.picture.specs.Pixels.{is_seen}
use Rattle.shortlist.specs.Candidates.{RangedList}
use Rattle.drawing.specs.Drawing.{Among, drawn}
use Rattle.lookup.specs.Positions.{Alike, first_equal}
use Rattle.drawing.specs.Lent.{is_skipped, reduced_bytes}
use Rattle.drawing.specs.Positions.{position_of, position_bytes}
use Rattle.drawing.specs.Finished.{Finishable}
use Rattle.drawing.proofs.CandidateLaws.{drawn_candidate}
use Rattle.drawing.proofs.OutputLaws.{bytes_length}
use Rattle.drawing.proofs.FinishedLaws.{seen_drawn}
use Rattle.quantize.specs.Quantize.{Commission, entries, size, palette_oklab, quantizing, index_of, index_for, index_bytes, indices_of}
use Rattle.quantize.specs.Quantize.{lengths_of}
use Rattle.quantize.specs.Steps.{Fitting}

-- the choice of a pixel that is seen is one of the palette's entries
pub chosen_among : (q : Commission) → 0 < entries q → RangedList (palette_oklab q) (entries q)
    → (i : ℕ) → is_seen (quantizing q).reduced i ≡ true → Among (quantizing q).candidates (drawn (quantizing q) i)
chosen_among q some ranged i e = drawn_candidate (quantizing q) some ranged.range i (seen_drawn (quantizing q).reduced i e)

-- ---- the palette's entries, and which of them is a pixel's
module _ (q : Commission) where
  pub palette_alike : Alike (quantizing q).candidates
  palette_alike = record { normalized = λ j k J K e. ap (normalize_color q.scale) e; oklab = λ j k J K e. at j J ∙ ap lab e ∙ sym (at k K) }
    where
      lab : ReducedColor → Oklab
      lab c = to_oklab (normalize_color q.scale c)

      at : (k : ℕ) → k < entries q → oklab_at (palette_oklab q) k ≡ lab (reduced_at q.palette k)
      at = list_at q.scale (reduced_at q.palette) (entries q)

  pub positions_are : position_bytes (quantizing q) ≡ indices_of q
  unfolding position_bytes index_bytes position_of index_for is_skipped is_seen first_equal index_of
  positions_are = gather_same (size q) (λ i h. ap (λ (k : ℕ). k ∷ []) (go (is_transparent ((quantizing q).reduced i).0) _))
    where
      -- a pixel is skipped if it is not seen: there is no colour zero
      go : (t : Bool) (k : ℕ) → cond (t || false) 0 k ≡ cond (not t) k 0
      go true k = refl
      go false k = refl

module _ (q : Commission) (indices out : List ℕ) (cells : List ℤ) (f : Fitting q (lengths_of q indices out cells)) (chosen : List ℕ)
    (e : chosen ≡ reduced_bytes (quantizing q))
  where
    -- the drawn bytes
    long : length chosen ≡ 4 * size q
    long = ap length e ∙ bytes_length (quantizing q)

    pub finishable : Finishable q.pixels chosen
    finishable = record { source = f.pixels ∙ sym long; long = omega (arith, long) }
