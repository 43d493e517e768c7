-- Where tiles lie: how many there are, and that the pixels of a tile are those between its edges (`Inside`), by the columns and rows of the
-- picture. The tile at a row and a column of tiles is `Place`. Assumes nothing.
use mathlib.Core.Path.{◌≡◌, refl, sym, ap, ◌∙◌, subst}
use Prim.Native.Nat.{ℕ, ◌+◌, ◌-◌, ◌*◌, ◌/◌, ◌%◌, ◌≤◌, ◌<◌}
use native.Mathlib.Nat.{add-zero, mul-suc, add-mul, one-mul, mul-le-mul, mul-le-mul_left, mul-le-mul_right, div-le_self, div-mul-le_self}
use native.Mathlib.Nat.{lt-div-mul-add, div-lt_iff_lt-mul, div-eq_of_lt, div-eq_of_lt-le, mul-add-div}
use native.Mathlib.Nat.{mul-add-div_right, mul-add-mod_self_left, mul-add-mod_self_right, mod-eq_of_lt, mod-lt}
use native.Mathlib.Omega.{arith}
use Rattle.judging.specs.Tiles.{tiles_over, tile_count, tile_of}

-- ---- numbers
pub next : (n k : ℕ) → (n + 1) * k ≡ n * k + k
next n k = add-mul n 1 k ∙ ap (λ (m : ℕ). n * k + m) (one-mul k)

pub product : (a b : ℕ) → a ≤ 8192 → b ≤ 8192 → a * b ≤ 67108864
product a b p q = mul-le-mul p q

-- one row, or one row of tiles, ends before the next begins
pub ends : (n m k : ℕ) → n < m → n * k + k ≤ m * k
ends n m k h = let a : (n + 1) * k ≤ m * k = mul-le-mul_right k (omega arith) in omega (arith, next n k)

-- ---- how many tiles
module _ (size side : ℕ) where
  pub few : size ≤ 4096 → side ≤ 4096 → tiles_over size side ≤ 8192
  unfolding tiles_over
  few p q = omega (arith, div-le_self (size + side - 1) side)

  module _ (some : 1 ≤ side) where
    -- they cover the size
    pub covers : (x : ℕ) → x < size → x / side < tiles_over size side
    unfolding tiles_over
    covers x h =
        let past : size + side - 1 < (size + side - 1) / side * side + side = lt-div-mul-add some in
        (div-lt_iff_lt-mul some).1 (omega arith)

    -- each starts within it
    pub starts : (n : ℕ) → n < tiles_over size side → n * side < size
    unfolding tiles_over
    starts n h = omega (arith, ends n ((size + side - 1) / side) side h, div-mul-le_self (size + side - 1) side)

-- ---- the column and the row of a pixel
module _ (w y x : ℕ) (h : x < w) where
  pub row_is : (y * w + x) / w ≡ y
  row_is = let some : 0 < w = omega arith in mul-add-div_right some y x ∙ ap (λ (q : ℕ). y + q) (div-eq_of_lt h) ∙ add-zero y

  pub column_is : (y * w + x) % w ≡ x
  column_is = mul-add-mod_self_right y w x ∙ mod-eq_of_lt h

-- ---- a tile
-- the tile at a row and a column of tiles has a number
pub record Place (w h tw th row column tile : ℕ) : Type 0 where
  pub some_wide : 1 ≤ tw
  pub some_high : 1 ≤ th
  pub row_below : row < tiles_over h th
  pub column_below : column < tiles_over w tw
  pub number : tile ≡ tiles_over w tw * row + column

-- pixel i lies between the edges of that tile
pub record Inside (w tw th row column i : ℕ) : Type 0 where
  pub left : column * tw ≤ i % w
  pub right : i % w < column * tw + tw
  pub top : row * th ≤ i / w
  pub bottom : i / w < row * th + th

module _ {w h tw th row column tile : ℕ} (p : Place w h tw th row column tile) where
  pub tile_below : tile < tile_count w h tw th
  tile_below =
      omega (arith, mul-le-mul_left (tiles_over w tw) p.row_below, mul-suc (tiles_over w tw) row, p.number, p.column_below)

  pub x_starts : column * tw < w
  x_starts = starts w tw p.some_wide column p.column_below

  pub y_starts : row * th < h
  y_starts = starts h th p.some_high row p.row_below

  -- two numbers of one tile have the same row and the same column
  same_row : (r : ℕ) {c : ℕ} → c < tiles_over w tw → tiles_over w tw * r + c ≡ tile → r ≡ row
  same_row r {c} l e = sym (part r c l) ∙ ap (λ (t : ℕ). t / tiles_over w tw) (e ∙ p.number) ∙ part row column p.column_below
    where
      part : (r c : ℕ) → c < tiles_over w tw → (tiles_over w tw * r + c) / tiles_over w tw ≡ r
      part r c l = let some : 0 < tiles_over w tw = omega arith in mul-add-div some r c ∙ ap (λ (q : ℕ). r + q) (div-eq_of_lt l) ∙ add-zero r

  same_column : (r : ℕ) {c : ℕ} → c < tiles_over w tw → tiles_over w tw * r + c ≡ tile → c ≡ column
  same_column r {c} l e = sym (part r c l) ∙ ap (λ (t : ℕ). t % tiles_over w tw) (e ∙ p.number) ∙ part row column p.column_below
    where
      part : (r c : ℕ) → c < tiles_over w tw → (tiles_over w tw * r + c) % tiles_over w tw ≡ c
      part r c l = mul-add-mod_self_left (tiles_over w tw) r c ∙ mod-eq_of_lt l

  -- the tile's pixels lie between its edges, and no others
  pub inside_is : (i : ℕ) → tile_of w tw th i ≡ tile → Inside w tw th row column i
  unfolding tile_of
  inside_is i e =
      let some : 0 < w = omega (arith, x_starts) in
      let l : i % w / tw < tiles_over w tw = covers w tw p.some_wide (i % w) (mod-lt i some) in
      let q : i / w / th ≡ row = same_row (i / w / th) l e in
      let c : i % w / tw ≡ column = same_column (i / w / th) l e in
      record {
        left = subst (λ (n : ℕ). n * tw ≤ i % w) c (div-mul-le_self (i % w) tw);
        right = subst (λ (n : ℕ). i % w < n * tw + tw) c (lt-div-mul-add p.some_wide);
        top = subst (λ (n : ℕ). n * th ≤ i / w) q (div-mul-le_self (i / w) th);
        bottom = subst (λ (n : ℕ). i / w < n * th + th) q (lt-div-mul-add p.some_high);
      }

  pub inside_of : (i : ℕ) → Inside w tw th row column i → tile_of w tw th i ≡ tile
  unfolding tile_of
  inside_of i s =
      let right : i % w < (column + 1) * tw = omega (arith, next column tw, s.right) in
      let bottom : i / w < (row + 1) * th = omega (arith, next row th, s.bottom) in
      let q : i / w / th ≡ row = div-eq_of_lt-le th s.top bottom in
      let c : i % w / tw ≡ column = div-eq_of_lt-le tw s.left right in
      rw (q, c) (sym p.number)

-- the tile at a row and a column that are below the numbers of rows and columns
pub place : {w h tw th row column across down : ℕ} → 1 ≤ tw → 1 ≤ th → across ≡ tiles_over w tw → down ≡ tiles_over h th → row < down → column < across
    → Place w h tw th row column (tiles_over w tw * row + column)
place {row = row} {column = column} wide high a d r c =
    record { some_wide = wide; some_high = high; row_below = subst (λ (n : ℕ). row < n) d r; column_below = subst (λ (n : ℕ). column < n) a c; number = refl }

pub tile_few : {w h tw th row column tile : ℕ} → Place w h tw th row column tile → w ≤ 4096 → tw ≤ 4096 → h ≤ 4096 → th ≤ 4096 → tile < 67108864
tile_few {w} {h} {tw} {th} p wide tile_wide high tile_high =
    omega (arith, tile_below p, product _ _ (few w tw wide tile_wide) (few h th high tile_high))
