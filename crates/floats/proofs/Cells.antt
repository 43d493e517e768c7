-- Buffers of f32 cells: a read, a store and a send. Assumes nothing.
use mathlib.Core.Path.{◌≡◌, refl, ap, ◌∙◌, subst}
use mathlib.Core.List.{List, [], ◌∷◌, map}
use Prim.Native.Nat.{ℕ, zero, suc, ◌≤◌, ◌<◌}
use native.Mathlib.Nat.{le_of_suc-le-suc, not-suc-le-zero}
use lib.IntN.{ℤ, pos, nat_abs, ◌+ℤ◌, ◌*ℤ◌}
use lib.ListN.{length, get_or, set, length-map}
use lib.Ieee.{Float, nan, binary32, add, mul}
use Rattle.floats.specs.Over.{sixteenths, wholef}
use Rattle.floats.specs.Cells.{Cell}
use Rattle.floats.specs.Cells.{Cells}
use Rattle.floats.proofs.Sixteenths.{send}

read : (zs : List ℤ) (i : ℕ) → i < length zs → get_or (map sixteenths zs) i nan ≡ sixteenths (get_or zs i (pos 0))
read [] i h = absurd (not-suc-le-zero h)
read (z ∷ zs) zero h = refl
read (z ∷ zs) (suc i) h = read zs i (le_of_suc-le-suc h)

store : (zs : List ℤ) (i : ℕ) (z : ℤ) → set (map sixteenths zs) i (sixteenths z) ≡ map sixteenths (set zs i z)
store [] i z = refl
store (y ∷ ys) zero z = refl
store (y ∷ ys) (suc i) z = ap (λ (l : List Float). sixteenths y ∷ l) (store ys i z)

inside : (k : ℕ) (xs : List Float) (zs : List ℤ) (i : ℕ) → Cells k xs zs → i < length xs → i < length zs
inside k xs zs i h l = subst (λ (n : ℕ). i < n) (ap length h.is ∙ length-map zs sixteenths) l

-- the cell at a place
pub cell_at : (k : ℕ) (xs : List Float) (zs : List ℤ) (i : ℕ) → Cells k xs zs → i < length xs → Cell k (get_or xs i nan) (get_or zs i (pos 0))
cell_at k xs zs i h l =
    let q = inside k xs zs i h l in
    record { is = ap (λ (ys : List Float). get_or ys i nan) h.is ∙ read zs i q; small = h.small i q }

-- a send to a place
pub cells_send : (xs : List Float) (zs : List ℤ) (i : ℕ) (y v : Float) (r : ℤ) (w : ℕ) → Cells 65536 xs zs → i < length xs → y ≡ wholef r → nat_abs r ≤ 255
    → v ≡ sixteenths (pos w) → 0 < w → w ≤ 16
    → set xs i (add binary32 (get_or xs i nan) (mul binary32 y v)) ≡ map sixteenths (set zs i (get_or zs i (pos 0) +ℤ r *ℤ pos w))
cells_send xs zs i y v r w h l p R q W L =
    ap (λ (x : Float). set xs i x) (send (get_or xs i nan) y v (get_or zs i (pos 0)) r w (cell_at 65536 xs zs i h l) p R q W L)
    ∙ ap (λ (ys : List Float). set ys i (sixteenths (get_or zs i (pos 0) +ℤ r *ℤ pos w))) h.is
    ∙ store zs i (get_or zs i (pos 0) +ℤ r *ℤ pos w)
