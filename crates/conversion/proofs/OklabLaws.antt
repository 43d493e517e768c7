-- The conversion: none of l, m, s exceeds 10^18, so that no root exceeds a million; and every component of a colour's Oklab is from -2 to 2.
-- For L and b that is plain from the roots' bound. For a it takes how the roots hang together: l, m, s are sums of the same three numbers, so
-- that s is at most 8 m and m at most 8 l, and s' is at most 2 m' + 1 and m' at most 2 l' + 1. Assumes nothing.
use mathlib.Core.Path.{◌≡◌, ap, ◌∙◌}
use Prim.Native.Nat.{ℕ, ◌+◌, ◌*◌, ◌≤◌, ◌<◌}
use native.Mathlib.Omega.{arith}
use lib.IntN.{ℤ, pos, nat_abs, ◌+ℤ◌, ◌-ℤ◌}
use Rattle.floats.proofs.Int.{sums}
use Rattle.floats.proofs.Whole.{millionths_within}
use Rattle.color.specs.declared.NormalizedColor.{NormalizedColor}
use Rattle.color.specs.declared.Oklab.{Oklab}
use Rattle.color.proofs.Distances.{Ranged}
use Rattle.conversion.specs.Linear.{linear_of}
use Rattle.conversion.specs.Root.{root_of}
use Rattle.conversion.specs.Nearest.{nearest}
use Rattle.conversion.specs.Oklab.{AtMost, IsLinear, l_of, m_of, s_of, lightness_of, a_of, b_of, millionths_of, oklab_of, to_oklab}
use Rattle.conversion.proofs.LinearLaws.{small}
use Rattle.conversion.proofs.RootLaws.{million, doubled}
use Rattle.conversion.proofs.NearestLaws.{nearest_size}

-- what is to be divided, with the sums of either sign together
pub a_parts : (l m s : ℕ) → nearest 10000000000 (pos (19779984951 * l + 4505937099 * s) -ℤ pos (24285922050 * m)) ≡ a_of l m s
a_parts l m s = ap (nearest 10000000000) (moved (pos (19779984951 * l)) (pos (24285922050 * m)) (pos (4505937099 * s)))
  where
    moved : (x y z : ℤ) → x +ℤ z -ℤ y ≡ x -ℤ y +ℤ z
    moved x y z = simp sums

-- ---- l, m, s of linear r, g, b, and their roots
pub linear_small : (i j k : ℕ) → i < 256 → j < 256 → k < 256 → AtMost 100000000 (linear_of i) (linear_of j) (linear_of k)
linear_small i j k p q h = record { first = small i p; second = small j q; third = small k h }

pub linear_bound : {x y z i j k : ℕ} → x ≡ linear_of i → y ≡ linear_of j → z ≡ linear_of k → i < 256 → j < 256 → k < 256 → AtMost 100000000 x y z
linear_bound {i = i} {j} {k} e f g p q h = rw (e, f, g) (linear_small i j k p q h)

module _ (r g b : ℕ) (h : AtMost 100000000 r g b) where
  pub sums_small : AtMost 1000000000000000000 (l_of r g b) (m_of r g b) (s_of r g b)
  sums_small = omega arith

  pub roots_small : AtMost 1000000 (root_of (l_of r g b)) (root_of (m_of r g b)) (root_of (s_of r g b))
  roots_small = let k = sums_small in record { first = million _ k.first; second = million _ k.second; third = million _ k.third }

  pub roots_bound : {x y z : ℕ} → x ≡ root_of (l_of r g b) → y ≡ root_of (m_of r g b) → z ≡ root_of (s_of r g b) → AtMost 1000000 x y z
  roots_bound e f g = rw (e, f, g) roots_small

  s_of_m : root_of (s_of r g b) ≤ 2 * root_of (m_of r g b) + 1
  s_of_m = doubled (s_of r g b) (m_of r g b) sums_small.third sums_small.second (omega arith)

  m_of_l : root_of (m_of r g b) ≤ 2 * root_of (l_of r g b) + 1
  m_of_l = doubled (m_of r g b) (l_of r g b) sums_small.second sums_small.first (omega arith)

-- ---- how large L, a, b are
module _ (l m s : ℕ) (h : AtMost 1000000 l m s) where
  lightness_size : nat_abs (lightness_of l m s) ≤ 2000000
  lightness_size = nearest_size 10000000000 2000000 (2104542553 * l + 7936177850 * m) (40720468 * s) (omega arith) (omega arith) (omega arith)

  a_size : s ≤ 2 * m + 1 → m ≤ 2 * l + 1 → nat_abs (a_of l m s) ≤ 2000000
  a_size p q =
      rw (← a_parts l m s) (nearest_size 10000000000 2000000 (19779984951 * l + 4505937099 * s) (24285922050 * m) (omega arith) (omega arith) (omega arith))

  b_size : nat_abs (b_of l m s) ≤ 2000000
  b_size = nearest_size 10000000000 2000000 (259040371 * l + 7827717662 * m) (8086757660 * s) (omega arith) (omega arith) (omega arith)

-- ---- every component is from -2 to 2
pub ranged : (c : NormalizedColor) → c.0.r < 256 → c.0.g < 256 → c.0.b < 256 → Ranged (to_oklab c)
unfolding to_oklab oklab_of
ranged c R G B =
    let r = linear_of c.0.r in
    let g = linear_of c.0.g in
    let b = linear_of c.0.b in
    let h = linear_small c.0.r c.0.g c.0.b R G B in
    let k = roots_small r g b h in
    record {
      l = millionths_within _ (lightness_size _ _ _ k);
      a = millionths_within _ (a_size _ _ _ k (s_of_m r g b h) (m_of_l r g b h));
      b = millionths_within _ (b_size _ _ _ k);
    }

-- from linear values: what the code answers is the colour's
pub converted : (c : NormalizedColor) (r g b : ℕ) (o : Oklab) → IsLinear c r g b → o ≡ oklab_of (millionths_of r g b) → o ≡ to_oklab c
unfolding to_oklab
converted c r g b o h e = e ∙ (λ i. oklab_of (millionths_of (h.red i) (h.green i) (h.blue i)))
