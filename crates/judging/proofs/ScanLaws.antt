-- The scan of one tile: what the numbers hold after the picture's first m pixels (`Holding`), from the tile's first row (`hold_begin`) over
-- the pixels left of the tile (`hold_row`), a pixel's turn (`hold_turn`), the pixels right of it (`hold_next`), to the verdict: it keeps to the
-- limit (`hold_end`), or a pixel overfills it (`hold_over`). Assumes nothing.
use mathlib.Core.Path.{◌≡◌, refl, sym, ap, ◌∙◌, subst}
use mathlib.Core.Bool.{Bool, true, false, cond, ◌&&◌}
use mathlib.Core.List.{List, []}
use Prim.Native.Nat.{ℕ, ◌+◌, ◌-◌, ◌*◌, ◌/◌, ◌%◌, ◌≤◌, ◌<◌, min}
use native.Mathlib.Nat.{mul_comm, mul-le-mul_left, mul-le-mul_right, div-lt_iff_lt-mul, le-div_iff_mul-le}
use native.Mathlib.Omega.{arith}
use Rattle.std.specs.Prelude.{Some, None}
use borrow.Author.Tests.{eqb-true, eq-eqb, lt-ltb, le-ltb}
use lib.Dec.{eqb}
use lib.ListN.{length}
use Rattle.lists.proofs.FirstLaws.{Searching, search_next, search_found, search_missed}
use Rattle.color.specs.declared.ReducedColor.{ReducedColor}
use Rattle.color.specs.Color.{same_reduced}
use Rattle.lists.specs.Different.{add_new, differing}
use Rattle.judging.specs.Tiles.{tiles_over, tile_count, tile_of, counts_in, colors_in, is_over, verdict_of, judged_of}
use Rattle.lists.proofs.DifferentLaws.{differing_more, differing_skip, differing_grows}
use Rattle.judging.proofs.TileLaws.{next, ends, row_is, column_is, Place, Inside, tile_below, x_starts, inside_is, inside_of}

module _ (shown : ℕ → Bool) (color : ℕ → ReducedColor) (w tw th : ℕ) where
  -- the different colours of those of tile t's pixels that are among the first m
  abbrev pub seen : ℕ → ℕ → List ReducedColor
  seen t m = differing same_reduced (counts_in shown w tw th t) color m

  -- the tile's colours so far are those seen, within the limit
  pub record Holding (limit t m : ℕ) (colors : List ReducedColor) : Type 0 where
    pub held : colors ≡ seen t m
    pub within : length colors ≤ limit

module _ (shown : ℕ → Bool) (color : ℕ → ReducedColor) {w h tw th row column tile : ℕ} (p : Place w h tw th row column tile) where
  -- a pixel that is not between the edges does not count; one that is counts if it is not transparent
  not_counted : (i : ℕ) → (Inside w tw th row column i → ⊥) → counts_in shown w tw th tile i ≡ false
  unfolding counts_in
  not_counted i out = go (eqb (tile_of w tw th i) tile) refl
    where
      go : (t : Bool) → eqb (tile_of w tw th i) tile ≡ t → t && shown i ≡ false
      go true e = absurd (out (inside_is p i (eqb-true (tile_of w tw th i) tile e)))
      go false e = refl

  counted : (i : ℕ) → Inside w tw th row column i → counts_in shown w tw th tile i ≡ shown i
  unfolding counts_in
  counted i s = rw (eq-eqb (tile_of w tw th i) tile (inside_of p i s))

  -- pixels that are not between the edges change nothing
  module _ {limit m n : ℕ} {colors : List ReducedColor} where
    pub hold_on : Holding shown color w tw th limit tile m colors → m ≤ n → ((i : ℕ) → m ≤ i → i < n → Inside w tw th row column i → ⊥)
        → Holding shown color w tw th limit tile n colors
    hold_on a l out =
        let e : seen shown color w tw th tile n ≡ seen shown color w tw th tile m = differing_skip same_reduced (counts_in shown w tw th tile) color l
        (λ i g k. not_counted i (out i g k)) in
        record { held = a.held ∙ sym e; within = a.within }

  -- the column of a pixel of row y
  column_of : (y : ℕ) {i : ℕ} → y * w ≤ i → i < y * w + w → i % w ≡ i - y * w
  column_of y {i} from to =
      let there : y * w + (i - y * w) ≡ i = omega arith in
      subst (λ (n : ℕ). n % w ≡ i - y * w) there (column_is w y (i - y * w) (omega arith))

  some : 0 < w
  some = omega (arith, x_starts p)

  module _ {limit : ℕ} where
    -- at the tile's first row
    pub hold_begin : {colors : List ReducedColor} → colors ≡ [] → Holding shown color w tw th limit tile (row * th * w) colors
    unfolding differing
    hold_begin none = hold_on (record { held = none; within = omega (arith, ap length none) }) (omega arith) above
      where
        above : (i : ℕ) → 0 ≤ i → i < row * th * w → Inside w tw th row column i → ⊥
        above i g l s = let up : i / w < row * th = (div-lt_iff_lt-mul some).1 l in omega (arith, s.top)

    module _ (y : ℕ) {colors : List ReducedColor} where
      -- from the row's first pixel to the tile's
      pub hold_row : Holding shown color w tw th limit tile (y * w) colors → Holding shown color w tw th limit tile (y * w + column * tw) colors
      hold_row a = hold_on a (omega arith) before
        where
          before : (i : ℕ) → y * w ≤ i → i < y * w + column * tw → Inside w tw th row column i → ⊥
          before i g l s = let to : i < y * w + w = omega (arith, x_starts p) in omega (arith, column_of y g to, s.left)

      -- from the tile's edge to the next row's first pixel
      pub hold_next : (x : ℕ) → Holding shown color w tw th limit tile (y * w + x) colors → min (column * tw + tw) w ≤ x → x ≤ w
          → Holding shown color w tw th limit tile ((y + 1) * w) colors
      hold_next x a e l = hold_on a (omega (arith, next y w)) after
        where
          after : (i : ℕ) → y * w + x ≤ i → i < (y + 1) * w → Inside w tw th row column i → ⊥
          after i g k s =
              let from : y * w ≤ i = omega arith in
              let to : i < y * w + w = omega (arith, next y w) in
              omega (arith, column_of y from to, s.right)

      -- the last row is behind: the tile keeps to the limit
      pub hold_end : Holding shown color w tw th limit tile (y * w) colors → min (row * th + th) h ≤ y → y ≤ h
          → is_over shown color w h tw th limit tile ≡ false
      unfolding is_over colors_in
      hold_end a e l =
          let all : Holding shown color w tw th limit tile (w * h) colors = hold_on a (omega (arith, mul-le-mul_right w l, mul_comm w h)) below in
          le-ltb limit (length (seen shown color w tw th tile (w * h))) (omega (arith, ap length all.held, all.within))
        where
          below : (i : ℕ) → y * w ≤ i → i < w * h → Inside w tw th row column i → ⊥
          below i g k s =
              let low : y ≤ i / w = (le-div_iff_mul-le some).1 g in
              let high : i / w < h = (div-lt_iff_lt-mul some).1 (omega (arith, mul_comm w h)) in
              omega (arith, s.bottom)

      -- ---- a pixel's turn
      module _ (x : ℕ) {colors' : List ReducedColor} (a : Holding shown color w tw th limit tile (y * w + x) colors) (top : row * th ≤ y)
          (bottom : y < min (row * th + th) h) (left : column * tw ≤ x) (right : x < min (column * tw + tw) w)
          (t : colors' ≡ cond (shown (y * w + x)) (add_new same_reduced (color (y * w + x)) colors) colors) where
        inside : Inside w tw th row column (y * w + x)
        inside =
            let r = row_is w y x (omega arith) in
            let c = column_is w y x (omega arith) in
            record { left = omega arith; right = omega arith; top = omega arith; bottom = omega arith }

        turned : colors' ≡ seen shown color w tw th tile (y * w + x + 1)
        turned = t ∙ rw (a.held, ← counted (y * w + x) inside) (sym (differing_more same_reduced (counts_in shown w tw th tile) color (y * w + x)))

        pub hold_turn : length colors' ≤ limit → Holding shown color w tw th limit tile (y * w + (x + 1)) colors'
        hold_turn l =
            subst (λ (m : ℕ). Holding shown color w tw th limit tile m colors') there (record { held = turned; within = l })
          where
            there : y * w + x + 1 ≡ y * w + (x + 1)
            there = omega arith

        pub hold_over : limit < length colors' → is_over shown color w h tw th limit tile ≡ true
        unfolding is_over colors_in
        hold_over l =
            let inside : y * w + x + 1 ≤ w * h = omega (arith, ends y h w (omega arith), mul_comm w h) in
            let more = differing_grows same_reduced (counts_in shown w tw th tile) color inside in
            lt-ltb limit (length (seen shown color w tw th tile (w * h))) (omega (arith, ap length turned))

-- ---- from tile to tile
-- no tile before this one is over its limit
module _ (shown : ℕ → Bool) (color : ℕ → ReducedColor) (w h tw th limit : ℕ) where
  pub record Scanned (row column : ℕ) : Type 0 where
    pub none : Searching (is_over shown color w h tw th limit) (tile_count w h tw th) (tiles_over w tw * row + column)

module _ {shown : ℕ → Bool} {color : ℕ → ReducedColor} {w h tw th limit row column : ℕ}
    (s : Scanned shown color w h tw th limit row column) where
  -- a tile that keeps to the limit
  pub scan_tile : Place w h tw th row column (tiles_over w tw * row + column) → is_over shown color w h tw th limit (tiles_over w tw * row + column) ≡ false
      → Scanned shown color w h tw th limit row (column + 1)
  scan_tile p e = record { none = subst (Searching (is_over shown color w h tw th limit) (tile_count w h tw th)) next_tile (search_next s.none (tile_below p) e) }
    where
      next_tile : tiles_over w tw * row + column + 1 ≡ tiles_over w tw * row + (column + 1)
      next_tile = omega arith

  -- a tile that is over is the answer; or none is, where all rows are behind
  pub scan_found : Place w h tw th row column (tiles_over w tw * row + column) → is_over shown color w h tw th limit (tiles_over w tw * row + column) ≡ true
      → Some (tiles_over w tw * row + column) ≡ judged_of shown color w h tw th limit
  unfolding judged_of verdict_of
  scan_found p e =
      let first = search_found s.none (tile_below p) e in
      rw (← first, lt-ltb _ _ (tile_below p)) refl

  pub scan_missed : tiles_over h th ≤ row → None ≡ judged_of shown color w h tw th limit
  unfolding judged_of verdict_of
  scan_missed l =
      let past = mul-le-mul_left (tiles_over w tw) l in
      let first = search_missed s.none (omega (arith, past)) in
      rw (← first, le-ltb (tiles_over w tw * row + column) (tile_count w h tw th) (omega (arith, past))) refl
