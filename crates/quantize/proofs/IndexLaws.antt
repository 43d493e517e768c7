-- The index of a colour that the palette has: `index_of` is the first entry equal to it (`index_is`), and nothing else is (`index_only`). Assumes nothing.
use mathlib.Core.Path.{◌≡◌, sym}
use mathlib.Core.Bool.{Bool}
use mathlib.Core.List.{List}
use Prim.Native.Nat.{ℕ, ◌<◌}
use native.Mathlib.Nat.{lt_of_le_of_lt}
use lib.Dec.{T, T_not}
use Rattle.lists.specs.First.{First}
use Rattle.lists.proofs.Bools.{holds, is_true}
use Rattle.lists.proofs.FirstLaws.{first_is, first_below}
use Rattle.color.specs.declared.ReducedColor.{ReducedColor}
use Rattle.color.specs.Color.{reduced_at, same_reduced}
use Rattle.color.proofs.Same.{same→equal, equal→same}
use Rattle.lookup.proofs.PositionLaws.{first_of_equals}
use Rattle.quantize.specs.Quantize.{index_of, IndexOf}

module _ (palette : List ℕ) (n : ℕ) (c : ReducedColor) where
  same : ℕ → Bool
  same k = same_reduced (reduced_at palette k) c

  first : First same n (index_of palette n c)
  unfolding index_of same
  first = first_is same n

  pub index_is : (k : ℕ) → k < n → reduced_at palette k ≡ c → IndexOf palette n c (index_of palette n c)
  unfolding same
  index_is k h e =
      let t : T (same k) = holds (equal→same (reduced_at palette k) c e) in
      let inside : index_of palette n c < n = lt_of_le_of_lt (first_below first k t) h in
      record {
        inside = inside;
        equal = same→equal _ c (is_true (same (index_of palette n c)) (first.passes inside));
        first = λ j l f. T_not (same j) (first.before j l) (holds (equal→same (reduced_at palette j) c f));
      }

  pub index_only : (k : ℕ) → IndexOf palette n c k → k ≡ index_of palette n c
  unfolding index_of
  index_only k i = sym (first_of_equals (reduced_at palette) n c k i.inside i.equal i.first)
