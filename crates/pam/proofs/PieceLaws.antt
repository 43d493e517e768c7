-- Bytes written into a buffer: one piece behind another is both at once (`sets_behind`), and what is as long as the buffer is what it holds (`sets_whole`).
-- A buffer that is written from the front, `Begun`: nothing yet, a piece more, its length. Assumes nothing.
use mathlib.Core.Path.{◌≡◌, refl, sym, ap, ◌∙◌}
use mathlib.Core.List.{List, [], ◌∷◌, ◌++◌, append-nil, append_assoc}
use Prim.Native.Nat.{ℕ, suc, ◌+◌, ◌-◌, ◌≤◌}
use native.Mathlib.Nat.{add-zero, add-suc, suc-add, zero-add}
use native.Mathlib.Omega.{arith}
use lib.ListN.{length, take, drop, set, length-append}
use lib.Seq.{sets, sets-eq, drop-length, drop-drop}

module _ {A : Type 0} where
  -- a piece behind another is both at once
  pub sets_behind : (l : List A) (i : ℕ) (xs ys : List A) → sets (sets l i xs) (i + length xs) ys ≡ sets l i (xs ++ ys)
  sets_behind l i [] ys = ap (λ (k : ℕ). sets l k ys) (add-zero i)
  sets_behind l i (x ∷ xs) ys =
      ap (λ (k : ℕ). sets (sets (set l i x) (suc i) xs) k ys) (add-suc i (length xs) ∙ sym (suc-add i (length xs)))
      ∙ sets_behind (set l i x) (suc i) xs ys

  -- a list that is as long as the buffer
  pub sets_whole : (l xs : List A) → length l ≡ length xs → sets l 0 xs ≡ xs
  sets_whole l xs h =
      sets-eq xs l 0 (omega arith)
      ∙ ap (λ (k : ℕ). xs ++ drop k l) (zero-add (length xs) ∙ sym h)
      ∙ ap (λ (r : List A). xs ++ r) (drop-length l)
      ∙ append-nil xs

  -- a piece in the place of as many
  pub put_piece : (l xs ys : List A) (at : ℕ) → at + length xs ≤ length l → ys ≡ xs
      → take at l ++ (ys ++ drop (at + length xs - at) (drop at l)) ≡ sets l at xs
  put_piece l xs ys at h e =
      let n : at + length xs - at ≡ length xs = omega arith in
      rw (e, n, drop-drop (length xs) at l) (sym (append_assoc (take at l) xs (drop (at + length xs) l)) ∙ sym (sets-eq xs l at h))

  -- ---- l is d with xs written over its front, and they end at `at`
  pub record Begun (d xs : List A) (at : ℕ) (l : List A) : Type 0 where
    pub end : at ≡ length xs
    pub so_far : l ≡ sets d 0 xs

  pub begun_none : (d : List A) → Begun d [] 0 d
  begun_none d = record { end = refl; so_far = refl }

  module _ {d xs : List A} {at : ℕ} {l : List A} (b : Begun d xs at l) where
    pub begun_more : (ys : List A) {r : ℕ} {l' : List A} → r ≡ at + length ys → l' ≡ sets l at ys → Begun d (xs ++ ys) r l'
    begun_more ys e f = record {
      end = omega (arith, b.end, length-append xs ys);
      so_far =
          f
          ∙ ap (λ (k : ℕ). sets l k ys) (b.end ∙ sym (zero-add (length xs)))
          ∙ ap (λ (m : List A). sets m (0 + length xs) ys) b.so_far
          ∙ sets_behind d 0 xs ys;
    }
