-- A loop that fills a buffer from the front: its invariant `Filling`, and the invariant's laws, from nothing filled (`fill_begin`) over one piece
-- or one element more (`fill_store`, `fill_set`) to the gathered list (`fill_done`), or one value everywhere (`fill_value`).
-- Over the element type and the piece size k. Assumes nothing.
use mathlib.Core.Path.{◌≡◌, refl, ◌∙◌, ap}
use mathlib.Core.List.{List, [], ◌∷◌}
use Prim.Native.Nat.{ℕ, ◌+◌, ◌*◌, ◌≤◌, ◌<◌}
use native.Mathlib.Nat.{mul-zero}
use native.Mathlib.Omega.{arith}
use lib.ListN.{length, set, replicate, length-set}
use lib.Seq.{sets, length-sets}
use Rattle.lists.specs.Gather.{gather, filled}
use Rattle.lists.proofs.GatherLaws.{gather-replicate, filled_none, filled_more, filled-set, filled_all}

module _ {A : Type 0} where
  -- s is d with its first i pieces, of k elements each, in place
  pub record Filling (k : ℕ) (piece : ℕ → List A) (d s : List A) (i : ℕ) : Type 0 where
    pub long : length s ≡ length d
    pub within : k * i ≤ length d
    pub so_far : s ≡ filled k i piece d

  pub fill_begin : (k : ℕ) (piece : ℕ → List A) (d : List A) → Filling k piece d d 0
  fill_begin k piece d = record { long = refl; within = rw mul-zero (omega arith); so_far = filled_none k piece d }

  module _ {k : ℕ} {piece : ℕ → List A} {d s : List A} where
    pub fill_store : {s' : List A} {i : ℕ} → Filling k piece d s i → ((j : ℕ) → length (piece j) ≡ k) → k * (i + 1) ≤ length d → s' ≡ sets s (k * i) (piece i)
        → Filling k piece d s' (i + 1)
    fill_store {i = i} f sized h e = record {
      long = ap length e ∙ length-sets s (k * i) (piece i) ∙ f.long;
      within = h;
      so_far = e ∙ ap (λ (l : List A). sets l (k * i) (piece i)) f.so_far ∙ filled_more k piece sized d i h;
    }

    pub fill_done : {n : ℕ} → Filling k piece d s n → length d ≡ k * n → s ≡ gather n piece
    fill_done {n} f h = f.so_far ∙ filled_all k piece d n h

  module _ {d s : List A} where
    pub fill_set : {f : ℕ → A} {s' : List A} {i : ℕ} → Filling 1 (λ j. f j ∷ []) d s i → i < length d → s' ≡ set s i (f i)
        → Filling 1 (λ j. f j ∷ []) d s' (i + 1)
    fill_set {f} {i = i} g h e = record {
      long = ap length e ∙ length-set s i (f i) ∙ g.long;
      within = omega arith;
      so_far = e ∙ ap (λ (l : List A). set l i (f i)) g.so_far ∙ filled-set f d i h;
    }

    pub fill_value : {v : A} {i : ℕ} → Filling 1 (λ _. v ∷ []) d s i → length d ≤ i → s ≡ replicate (length d) v
    fill_value {v} {i} g h =
        let e : i ≡ length d = omega arith in
        fill_done g (omega arith) ∙ gather-replicate i v ∙ ap (λ (m : ℕ). replicate m v) e
