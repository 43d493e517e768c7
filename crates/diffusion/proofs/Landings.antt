-- Where a send arrives: inside the picture, later in the scan where its target comes later, and from one pixel only. Assumes nothing.
use mathlib.Core.Path.{◌≡◌, refl, sym, ap, ◌∙◌, subst}
use mathlib.Core.Bool.{Bool, true, false, cond, ◌&&◌, ◌||◌}
use Prim.Native.Nat.{ℕ, ◌+◌, ◌*◌, ◌/◌, ◌%◌, ◌≤◌, ◌<◌}
use native.Mathlib.Nat.{div-add-mod', mod-lt, mul_comm, mul-le-mul_right}
use native.Mathlib.Omega.{arith}
use lib.Arith.{digits_lt, digits_div, digits_mod}
use lib.Dec.{T, ltb, ltb→lt}
use lib.IntN.{ℤ, pos, negsuc, nat_abs, ◌+ℤ◌}
use Rattle.patterns.specs.declared.Target.{Target}
use Rattle.patterns.specs.Kernel.{pixel, outside, place, landing, positive, comes_later}
use Rattle.floats.proofs.Int.{cancel}

-- what is known of a column z and a row y that are the pixel i
record Inside (w h : ℕ) (z : ℤ) (y i : ℕ) : Type 0 where
  x : ℕ
  column : z ≡ pos x
  right : x < w
  down : y < h
  number : i ≡ y * w + x

inside : (w h : ℕ) (z : ℤ) (y i : ℕ) → place w h z y ≡ pixel i → Inside w h z y i
unfolding place
inside w h (pos x) y i e = go (ltb x w) (ltb y h) refl refl e
  where
    go : (a b : Bool) → ltb x w ≡ a → ltb y h ≡ b → cond (a && b) (pixel (y * w + x)) outside ≡ pixel i → Inside w h (pos x) y i
    go true true p q e =
        record { x = x; column = refl; right = ltb→lt x w (subst T (sym p) tt); down = ltb→lt y h (subst T (sym q) tt); number = cc }
    go true false p q e = absurd (let z : ◌≡◌ {A = ℕ} 0 1 = cc in omega arith)
    go false b p q e = absurd (let z : ◌≡◌ {A = ℕ} 0 1 = cc in omega arith)
inside w h (negsuc x) y i e = absurd (let z : ◌≡◌ {A = ℕ} 0 1 = cc in omega arith)

pub place_inside : (w h : ℕ) (z : ℤ) (y i : ℕ) → place w h z y ≡ pixel i → i < w * h
place_inside w h z y i e =
    let l = inside w h z y i e in
    subst (λ (n : ℕ). i < n) (mul_comm h w) (subst (λ (n : ℕ). n < h * w) (sym l.number) (digits_lt l.down l.right))

-- a column to the right
further : (x : ℕ) (d : ℤ) (x' : ℕ) → T (positive d) → pos x +ℤ d ≡ pos x' → x < x'
unfolding positive
further x (pos d) x' s e = omega (arith, ltb→lt 0 d s, ap nat_abs e)
further x (negsuc d) x' s e = absurd s

module _ (w h j : ℕ) (t : Target) (i : ℕ) (e : landing w h j t ≡ pixel i) where
  landed : Inside w h (pos (j % w) +ℤ t.dx) (j / w + t.dy) i
  unfolding landing
  landed = inside w h (pos (j % w) +ℤ t.dx) (j / w + t.dy) i e

  pub landing-inside : i < w * h
  unfolding landing
  landing-inside = place_inside w h (pos (j % w) +ℤ t.dx) (j / w + t.dy) i e

  pub landing_later : T (comes_later t) → j < i
  unfolding comes_later
  landing_later s = go (ltb 0 t.dy) refl s
    where
      l : Inside w h (pos (j % w) +ℤ t.dx) (j / w + t.dy) i
      l = landed

      left : j % w < w
      left = mod-lt j (omega (arith, l.right))

      go : (b : Bool) → ltb 0 t.dy ≡ b → T (b || positive t.dx) → j < i
      go true p s =
          let row : 1 ≤ t.dy = ltb→lt 0 t.dy (subst T (sym p) tt) in
          omega (arith, left, l.number, div-add-mod' j w, mul-le-mul_right w row)
      go false p s = omega (arith, further (j % w) t.dx l.x s l.column, l.number, div-add-mod' j w)

-- the same row and column, from the same number
pub landing_once : (w h j j' : ℕ) (t : Target) (i : ℕ) → landing w h j t ≡ pixel i → landing w h j' t ≡ pixel i → j ≡ j'
landing_once w h j j' t i e e' = sym (div-add-mod' j w) ∙ (λ k. row k * w + column k) ∙ div-add-mod' j' w
  where
    l : Inside w h (pos (j % w) +ℤ t.dx) (j / w + t.dy) i
    l = landed w h j t i e

    l' : Inside w h (pos (j' % w) +ℤ t.dx) (j' / w + t.dy) i
    l' = landed w h j' t i e'

    number : (j / w + t.dy) * w + l.x ≡ (j' / w + t.dy) * w + l'.x
    number = sym l.number ∙ l'.number

    rows : j / w + t.dy ≡ j' / w + t.dy
    rows = sym (digits_div (j / w + t.dy) l.right) ∙ ap (λ (n : ℕ). n / w) number ∙ digits_div (j' / w + t.dy) l'.right

    columns : l.x ≡ l'.x
    columns = sym (digits_mod (j / w + t.dy) l.right) ∙ ap (λ (n : ℕ). n % w) number ∙ digits_mod (j' / w + t.dy) l'.right

    row : j / w ≡ j' / w
    row = omega (arith, rows)

    column : j % w ≡ j' % w
    column = ap nat_abs (cancel (pos (j % w)) (pos (j' % w)) t.dx (l.column ∙ ap pos columns ∙ sym l'.column))
