-- Pixel i of a picture: the picture is not empty, and the pixel's column and row lie in it. Assumes nothing.
use Prim.Native.Nat.{ℕ, zero, suc, ◌*◌, ◌/◌, ◌%◌, ◌<◌}
use native.Mathlib.Nat.{zero-mul, mul_comm, mod-lt, div-lt_iff_lt-mul, not-suc-le-zero, zero-lt-suc}

module _ (w h i : ℕ) (inside : i < w * h) where
  pub some_wide : 0 < w
  some_wide = go w inside
    where
      go : (w : ℕ) → i < w * h → 0 < w
      go zero l = absurd (not-suc-le-zero (rw zero-mul at l))
      go (suc w) l = zero-lt-suc w

  pub column_inside : i % w < w
  column_inside = mod-lt i some_wide

  pub row_inside : i / w < h
  row_inside = (div-lt_iff_lt-mul some_wide).1 (rw mul_comm at inside)
