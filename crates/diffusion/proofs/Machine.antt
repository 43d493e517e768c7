-- What the machine makes of rounded numbers, residuals and sends, with 16 and 32 bits: each sum and product is the whole number that it stands for,
-- and one that is within 4080 either way has room in 16 bits. Assumes nothing.
use mathlib.Core.Path.{◌≡◌, sym, ap, ◌∙◌, subst}
use Prim.Native.Nat.{ℕ, ◌+◌, ◌*◌, ◌/◌, ◌≤◌, ◌<◌}
use native.Mathlib.Nat.{le_refl, lt_of_lt_of_le, lt_of_le_of_lt}
use native.Mathlib.Omega.{arith}
use borrow.Author.Tests.{ne_eqb}
use mathlib.Core.Bool.{Bool, true, false, cond}
use mathlib.Core.List.{List}
use lib.Dec.{lit≤, lit<}
use lib.IntN.{ℤ, pos, neg_ℤ, nat_abs, ◌+ℤ◌, ◌-ℤ◌, ◌*ℤ◌, +ℤ_idl, +ℤ_idr}
use lib.Signed.{lt_z}
use lib.ListN.{length, get_or}
use mir.Syntax.{w16, w32}
use mir.Val.{to_z, of_z, SFits}
use mir.ValLaws.{to_z-of_z, to_z_pos}
use Rattle.floats.proofs.Int.{sum_size, neg_size, product_bound, difference_bound}
use Rattle.diffusion.specs.Biased.{halves}
use Rattle.diffusion.specs.Scatter.{more}
use Rattle.diffusion.specs.Sends.{RoomIn}
use Rattle.diffusion.proofs.Scatter.{more_at}
use Rattle.diffusion.proofs.Rounding.{halves_below, halves_above}
use Rattle.diffusion.proofs.Spots.{mag_size}

-- what 16 and 32 bits hold
fits_16 : (z : ℤ) → nat_abs z ≤ 4080 → SFits w16 z
fits_16 z h = record { sfits = omega (arith, mag_size z) }

pub small_fits : (z : ℤ) → nat_abs z ≤ 255 → SFits w16 z
small_fits z h = fits_16 z (omega arith)

fits_32 : (z : ℤ) → nat_abs z ≤ 65536 → SFits w32 z
fits_32 z h = record { sfits = omega (arith, mag_size z) }

byte_16 : (n : ℕ) → n < 256 → to_z w16 n ≡ pos n
byte_16 n h = to_z_pos w16 n (lt_of_lt_of_le h (lit≤ tt))

-- ---- rounding, with 32 bits
module _ (z : ℤ) (Z : nat_abs z ≤ 65536) where
  pub number : to_z w32 (of_z w32 z) ≡ z
  number = to_z-of_z w32 z (fits_32 z Z)

  -- a sixteenth of its size, with a half added
  abbrev part : ℕ
  part = (nat_abs z + 8) / 16

  few : part ≤ 65536
  few = omega arith

  part_back : to_z w32 part ≡ pos part
  part_back = to_z_pos w32 part (lt_of_le_of_lt few (lit< tt))

  module _ (below : lt_z (to_z w32 (of_z w32 z)) (pos 0) ≡ true) where
    is_below : lt_z z (pos 0) ≡ true
    is_below = ap (λ (y : ℤ). lt_z y (pos 0)) (sym number) ∙ below

    rounded : pos 0 -ℤ to_z w32 part ≡ halves z
    rounded = ap (λ (y : ℤ). pos 0 -ℤ y) part_back ∙ +ℤ_idl (neg_ℤ (pos part)) ∙ halves_below z is_below

    pub rounded-fits : SFits w32 (pos 0 -ℤ to_z w32 part)
    rounded-fits =
        rw (ap (λ (y : ℤ). pos 0 -ℤ y) part_back ∙ +ℤ_idl (neg_ℤ (pos part))) (fits_32 (neg_ℤ (pos part)) (omega (arith, neg_size part, few)))

    pub rounded_is : to_z w32 (of_z w32 (pos 0 -ℤ to_z w32 part)) ≡ halves z
    rounded_is = to_z-of_z w32 _ rounded-fits ∙ rounded

  pub above_is : lt_z (to_z w32 (of_z w32 z)) (pos 0) ≡ false → to_z w32 part ≡ halves z
  above_is above = part_back ∙ halves_above z (ap (λ (y : ℤ). lt_z y (pos 0)) (sym number) ∙ above)

-- ---- a residual
module _ (b c : ℕ) (B : b < 256) (C : c < 256) where
  left : to_z w16 b -ℤ to_z w16 c ≡ pos b -ℤ pos c
  left = λ q. byte_16 b B q -ℤ byte_16 c C q

  pub left_small : nat_abs (pos b -ℤ pos c) ≤ 255
  left_small = difference_bound b c 255 (omega arith) (omega arith)

  pub left_fits : SFits w16 (to_z w16 b -ℤ to_z w16 c)
  left_fits = rw left (fits_16 (pos b -ℤ pos c) (omega (arith, left_small)))

  pub left_is : to_z w16 (of_z w16 (to_z w16 b -ℤ to_z w16 c)) ≡ pos b -ℤ pos c
  left_is = to_z-of_z w16 _ left_fits ∙ left

-- ---- a send of w sixteenths of the residual r to a cell of v sixteenths that has room for it
module _ (v r : ℤ) (w : ℕ) (R : nat_abs r ≤ 255) (room : nat_abs v + 255 * w ≤ 4080) where
  product_small : nat_abs (r *ℤ pos w) ≤ 255 * w
  product_small = product_bound r (pos w) 255 w R (le_refl w)

  product : to_z w16 (of_z w16 r) *ℤ to_z w16 w ≡ r *ℤ pos w
  product = λ q. to_z-of_z w16 r (fits_16 r (omega arith)) q *ℤ byte_16 w (omega arith) q

  pub product_fits : SFits w16 (to_z w16 (of_z w16 r) *ℤ to_z w16 w)
  product_fits = rw product (fits_16 (r *ℤ pos w) (omega (arith, product_small)))

  sum : to_z w16 (of_z w16 v) +ℤ to_z w16 (of_z w16 (to_z w16 (of_z w16 r) *ℤ to_z w16 w)) ≡ v +ℤ r *ℤ pos w
  sum = λ q. to_z-of_z w16 v (fits_16 v (omega arith)) q +ℤ (to_z-of_z w16 _ product_fits ∙ product) q

  -- what is stored lies within 4080 either way
  pub sum_small : nat_abs (v +ℤ r *ℤ pos w) ≤ 4080
  sum_small = omega (arith, sum_size v (r *ℤ pos w), product_small)

  pub sum_fits : SFits w16 (to_z w16 (of_z w16 v) +ℤ to_z w16 (of_z w16 (to_z w16 (of_z w16 r) *ℤ to_z w16 w)))
  sum_fits = rw sum (fits_16 (v +ℤ r *ℤ pos w) sum_small)

  pub sum_is : to_z w16 (of_z w16 (to_z w16 (of_z w16 v) +ℤ to_z w16 (of_z w16 (to_z w16 (of_z w16 r) *ℤ to_z w16 w)))) ≡ v +ℤ r *ℤ pos w
  sum_is = to_z-of_z w16 _ sum_fits ∙ sum

-- ---- a cell keeps its room while another is sent to
pub room_kept : (cells : List ℤ) (at other w : ℕ) (z : ℤ) → at < length cells → (other ≡ at → ⊥) → RoomIn cells at w → RoomIn (more cells other z) at w
room_kept cells at other w z l n r =
    subst (λ (v : ℤ). nat_abs v + 255 * w ≤ 4080)
    (sym (more_at cells other z at l ∙ ap (λ (b : Bool). get_or cells at (pos 0) +ℤ cond b z (pos 0)) (ne_eqb other at n) ∙ +ℤ_idr (get_or cells at (pos 0)))) r
