-- The picture that is drawn over the candidates is the promised one (`same_picture`); the floats of rooms that hold them are in range (`front_ranged`);
-- and the drawn bytes can be finished (`finishable`). Assumes nothing.
use mathlib.Core.Path.{◌≡◌, sym, ◌∙◌, ap}
use mathlib.Core.List.{List}
use Prim.Native.Nat.{ℕ, ◌*◌, ◌<◌}
use native.Mathlib.Omega.{arith}
use lib.ListN.{length, get_or, take}
use lib.IntN.{ℤ}
use lib.Ieee.{Float}
use Rattle.color.specs.Color.{reduced_at}
use Rattle.mixing.specs.Widths.{width_of}
use Rattle.shortlist.specs.Candidates.{RangedList}
use Rattle.drawing.specs.Lent.{Lent, drawing_of, reduced_bytes}
use Rattle.drawing.specs.Finished.{Finishable}
use Rattle.drawing.proofs.CandidateLaws.{list_fit}
use Rattle.drawing.proofs.OutputLaws.{bytes_length, bytes_at}
use Rattle.candidates.specs.Rooms.{candidate_at}
use Rattle.dither.specs.Mode.{Commission, size, candidate_list, ditherer_of, lent_to, dithering, chosen}
use Rattle.dither.specs.Steps.{Fitting, Roomed}

-- over what is lent to it, with the width of the limit
pub same_picture : (q : Commission) {width : ℕ} {l : Lent} → width ≡ width_of q.settings.shift q.settings.limit → l ≡ lent_to q
    → drawing_of (ditherer_of q.settings width) q.settings.zero l ≡ dithering q
same_picture q w e = λ t. drawing_of (ditherer_of q.settings (w t)) q.settings.zero (e t)

-- the floats at the front of the room are in range, where the scale table holds bytes
module _ (q : Commission) {places : List ℕ} {oklab : List Float} {count : ℕ} (r : Roomed q places oklab count) where
  pub front_ranged : ((k : ℕ) → get_or q.scale k 0 < 256) → RangedList (take (3 * count) oklab) count
  front_ranged scales = rw (r.converted, r.counted) (list_fit q.scale (candidate_at (candidate_list q)) (length (candidate_list q)) scales)

module _ (q : Commission) {out₀ : List ℕ} {cells₀ : List ℤ} (f : Fitting q out₀ cells₀) (reduced : List ℕ) (e : reduced ≡ reduced_bytes (dithering q)) where
  -- colour i of the drawn bytes is pixel i's choice
  pub at : (i : ℕ) → i < size q → reduced_at reduced i ≡ chosen q i
  at i h = ap (λ (l : List ℕ). reduced_at l i) e ∙ bytes_at (dithering q) i h

  long : length reduced ≡ 4 * size q
  long = ap length e ∙ bytes_length (dithering q)

  pub finishable : Finishable q.pixels reduced
  finishable = record { source = f.pixels ∙ sym long; long = omega (arith, long) }
