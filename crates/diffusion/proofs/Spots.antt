-- A pixel's column and row, the machine's sums and tests of them, and the place that they lead to. Assumes nothing.
use mathlib.Core.Path.{◌≡◌, refl, sym, ◌∙◌, subst}
use mathlib.Core.Bool.{Bool, true, false, cond, ◌&&◌}
use Prim.Native.Nat.{ℕ, ◌+◌, ◌*◌, ◌≤◌, ◌<◌}
use native.Mathlib.Nat.{le_refl, lt_of_lt_of_le}
use native.Mathlib.Omega.{arith}
use lib.Arith.{digits_div, digits_mod}
use lib.Dec.{T, ltb, ltb→lt, lt→ltb, lit≤}
use lib.IntN.{ℤ, pos, negsuc, nat_abs, ◌+ℤ◌}
use lib.Signed.{lt_z, non_neg, mag}
use mir.Syntax.{w32}
use mir.Val.{to_z, of_z, SFits}
use mir.ValLaws.{to_z-of_z, to_z_pos}
use Rattle.floats.proofs.Int.{sum_size}
use Rattle.patterns.specs.declared.Target.{Target}
use Rattle.patterns.specs.Kernel.{pixel, outside, place, landing}

-- the landing of the pixel in column x and row y
pub landing_at : (w h x y : ℕ) (t : Target) → x < w → landing w h (y * w + x) t ≡ place w h (pos x +ℤ t.dx) (y + t.dy)
unfolding landing
landing_at w h x y t l = λ q. place w h (pos (digits_mod y l q) +ℤ t.dx) (digits_div y l q + t.dy)

-- ---- a column and an offset, as the machine adds them
pub mag_size : (z : ℤ) → mag z ≤ nat_abs z
mag_size (pos n) = le_refl n
mag_size (negsuc n) = omega arith

-- what is read back of the sum's bits
abbrev pub column : ℕ → ℤ → ℤ
column x d = to_z w32 (of_z w32 (to_z w32 x +ℤ to_z w32 (of_z w32 d)))

module _ (x : ℕ) (d : ℤ) (X : x < 4096) (D : nat_abs d ≤ 16) where
  fits : SFits w32 d
  fits = record { sfits = omega (arith, mag_size d) }

  machine : to_z w32 x +ℤ to_z w32 (of_z w32 d) ≡ pos x +ℤ d
  machine = λ q. to_z_pos w32 x (lt_of_lt_of_le X (lit≤ tt)) q +ℤ to_z-of_z w32 d fits q

  size : nat_abs (pos x +ℤ d) < 8192
  size = omega (arith, sum_size (pos x) d)

  moved_fits : SFits w32 (to_z w32 x +ℤ to_z w32 (of_z w32 d))
  moved_fits = rw machine (record { sfits = omega (arith, mag_size (pos x +ℤ d), size) })

  pub moved : column x d ≡ pos x +ℤ d
  moved = to_z-of_z w32 (to_z w32 x +ℤ to_z w32 (of_z w32 d)) moved_fits ∙ machine

-- ---- where the tests lead
pub left_of_lem : (w h : ℕ) (z : ℤ) (y : ℕ) → lt_z z (pos 0) ≡ true → outside ≡ place w h z y
unfolding place
left_of_lem w h (pos x) y e = absurd (none x (ltb→lt x 0 (subst T (sym e) tt)))
  where
    none : (x : ℕ) → x < 0 → ⊥
    none x h = omega arith
left_of_lem w h (negsuc x) y e = refl

pub past_right : (w h : ℕ) (z : ℤ) (y : ℕ) → w ≤ nat_abs z → outside ≡ place w h z y
unfolding place
past_right w h (pos x) y l = go (ltb x w) refl
  where
    none : x < w → ⊥
    none b = omega arith

    go : (b : Bool) → ltb x w ≡ b → outside ≡ cond (b && ltb y h) (pixel (y * w + x)) outside
    go true e = absurd (none (ltb→lt x w (subst T (sym e) tt)))
    go false e = refl
past_right w h (negsuc x) y l = refl

pub below : (w h : ℕ) (z : ℤ) (y : ℕ) → h ≤ y → outside ≡ place w h z y
unfolding place
below w h (pos x) y l = go (ltb x w) (ltb y h) refl
  where
    none : y < h → ⊥
    none b = omega arith

    go : (a b : Bool) → ltb y h ≡ b → outside ≡ cond (a && b) (pixel (y * w + x)) outside
    go true true e = absurd (none (ltb→lt y h (subst T (sym e) tt)))
    go true false e = refl
    go false b e = refl
below w h (negsuc x) y l = refl

pub within : (w h : ℕ) (z : ℤ) (y : ℕ) → T (non_neg z) → nat_abs z < w → y < h → pixel (y * w + nat_abs z) ≡ place w h z y
unfolding place
within w h (pos x) y t l m = go (ltb x w) (ltb y h) (lt→ltb x w l) (lt→ltb y h m)
  where
    go : (a b : Bool) → T a → T b → pixel (y * w + x) ≡ cond (a && b) (pixel (y * w + x)) outside
    go true true p q = refl
    go true false p q = absurd q
    go false b p q = absurd p
within w h (negsuc x) y t l m = absurd t
