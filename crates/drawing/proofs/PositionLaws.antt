-- The positions of a drawn picture's pixels: a skipped pixel's and a dithered one's (`takes_skipped`, `takes_dithered`), and the room for them, from nothing
-- noted (`note_begin`) over one pixel more (`note_more`) to all (`note_done`). Assumes nothing.
use mathlib.Core.Path.{◌≡◌, refl, sym, ap, ◌∙◌}
use mathlib.Core.Bool.{true, false}
use mathlib.Core.List.{List, [], ◌∷◌}
use Prim.Native.Nat.{ℕ, ◌+◌, ◌*◌, ◌%◌, ◌≤◌, ◌<◌}
use native.Mathlib.Nat.{lt_of_lt_of_le}
use native.Mathlib.Omega.{arith}
use lib.ListN.{length, set, length-set}
use Rattle.lists.specs.Gather.{gather}
use Rattle.lists.proofs.FillLaws.{Filling, fill_begin, fill_set, fill_done}
use Rattle.color.specs.declared.ReducedColor.{ReducedColor}
use Rattle.lookup.specs.declared.Choice.{Choice}
use Rattle.lookup.specs.Positions.{Alike, first_equal, Takes}
use Rattle.drawing.specs.Drawing.{Drawing, drawn}
use Rattle.drawing.specs.Positions.{position_of, position_bytes, TakesAt, PositionsAfter}
use Rattle.drawing.proofs.DrawnLaws.{drawn_skipped}

-- ---- one pixel
module _ (d : Drawing) (i : ℕ) (r : Choice) where
  pub takes_skipped : d.skipped i ≡ true → r.color ≡ d.reduced i → r.position ≡ 0 → TakesAt d i r
  unfolding position_of
  takes_skipped s kept none =
      record { color = kept ∙ sym (drawn_skipped d i s); small = λ few. omega (arith, none); position = λ alike. none ∙ rw s refl }

  pub takes_dithered : (c : ReducedColor) → d.skipped i ≡ false → c ≡ drawn d i → Takes d.candidates c r → TakesAt d i r
  unfolding position_of
  takes_dithered c s e t = record {
    color = t.color ∙ e;
    small = λ few. lt_of_lt_of_le t.inside few;
    position = λ alike. t.position alike ∙ ap (first_equal d.candidates) e ∙ rw s refl;
  }

-- ---- the room for them, with the positions of the first i pixels
pub record Noting (d : Drawing) (was left : List ℕ) (i : ℕ) : Type 0 where
  pub long : length left ≡ length was
  pub so_far : Alike d.candidates → d.candidates.count ≤ 256 → length was ≡ d.width * d.height → Filling 1 (λ j. position_of d j ∷ []) was left i

module _ (d : Drawing) (was : List ℕ) where
  pub note_begin : Noting d was was 0
  note_begin = record { long = refl; so_far = λ alike few whole. fill_begin 1 _ was }

  module _ (left : List ℕ) (i : ℕ) (n : Noting d was left i) where
    pub note_more : (r : Choice) (left' : List ℕ) → i < d.width * d.height → TakesAt d i r → left' ≡ set left i (r.position % 256)
        → Noting d was left' (i + 1)
    note_more r left' h t e = record {
      long = ap length e ∙ length-set left i (r.position % 256) ∙ n.long;
      so_far = λ alike few whole.
          let byte : r.position % 256 ≡ position_of d i = omega (arith, t.small few) ∙ t.position alike in
          fill_set (n.so_far alike few whole) (omega (arith, whole)) (e ∙ ap (set left i) byte);
    }

    pub note_done : i ≡ d.width * d.height → PositionsAfter d was left
    unfolding position_bytes
    note_done e alike few whole =
        fill_done (n.so_far alike few whole) (omega (arith, whole, e)) ∙ ap (λ (m : ℕ). gather m (λ j. position_of d j ∷ [])) e
