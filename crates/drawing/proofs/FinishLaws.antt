-- The pass that puts each pixel's full precision form in the place of its reduced choice: the pixel whose turn it is still has its choice (`finish_at`),
-- one pixel more (`finish_next`), and all of them (`finish_done`). Assumes nothing.
use mathlib.Core.Path.{◌≡◌, refl, sym, ◌∙◌, ap}
use mathlib.Core.Bool.{Bool}
use mathlib.Core.List.{List}
use Prim.Native.Nat.{ℕ, ◌+◌, ◌*◌, ◌≤◌, ◌<◌}
use native.Mathlib.Omega.{arith}
use lib.ListN.{length}
use lib.Seq.{sets}
use Rattle.lists.specs.Gather.{gather}
use Rattle.lists.proofs.FillLaws.{Filling, fill_store, fill_done}
use Rattle.color.specs.declared.NormalizedColor.{NormalizedColor}
use Rattle.color.specs.declared.ReducedColor.{ReducedColor}
use Rattle.color.specs.Color.{rgba_at, reduced_at, bytes_of}
use Rattle.color.proofs.PieceLaws.{rgba_rest}
use Rattle.drawing.specs.Finished.{finished_at, finished_bytes}

module _ (normalize : ReducedColor → NormalizedColor) (seen : ℕ → Bool) (chosen : List ℕ) where
  -- what becomes of pixel j, whose choice is lent, and its bytes
  abbrev pub end_of : ℕ → NormalizedColor
  end_of j = finished_at normalize seen (reduced_at chosen) j

  abbrev pub piece : ℕ → List ℕ
  piece j = bytes_of (end_of j).0

  module _ {out : List ℕ} {i : ℕ} (f : Filling 4 piece chosen out i) where
    pub finish_at : rgba_at out i ≡ rgba_at chosen i
    finish_at = ap (λ (l : List ℕ). rgba_at l i) f.so_far ∙ rgba_rest (λ j. (end_of j).0) chosen i

    module _ {n : ℕ} (long : length chosen ≡ 4 * n) where
      pub finish_next : {out' : List ℕ} (c : NormalizedColor) → i < n → c ≡ end_of i → out' ≡ sets out (4 * i) (bytes_of c.0)
          → Filling 4 piece chosen out' (i + 1)
      finish_next c h e s = fill_store f (λ j. refl) (omega arith) (s ∙ ap (λ (x : NormalizedColor). sets out (4 * i) (bytes_of x.0)) e)

      pub finish_done : n ≤ i → out ≡ finished_bytes normalize seen (reduced_at chosen) n
      unfolding finished_bytes
      finish_done h =
          let e : i ≡ n = omega (arith, f.within) in
          fill_done f (long ∙ ap (λ (m : ℕ). 4 * m) (sym e)) ∙ ap (λ (m : ℕ). gather m piece) e
