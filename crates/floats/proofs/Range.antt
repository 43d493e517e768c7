-- The tests -A ≤ x and x ≤ A, as code makes them, and the bound `Within A`: each says the same. A NaN passes neither test. Assumes nothing.
use mathlib.Core.Path.{◌≡◌, sym, ap, ◌∙◌}
use mathlib.Core.Logic.{inl, inr}
use Prim.Native.Nat.{ℕ, ◌+◌, ◌*◌, ◌≤◌, ◌<◌}
use native.Mathlib.Nat.{le_trans, le_of_eq, mul-one, mul_right_comm, mul-le-mul_right, eq-or-lt_of_le}
use native.Mathlib.Omega.{arith}
use mathlib.Core.Bool.{Bool, true, false, not, ◌&&◌, ◌||◌, true≢false}
use lib.Dec.{T, ltb, eqb, ltb→lt, lt→ltb, nltb→le, eqb→eq}
use mir.Facts.{or_yes}
use lib.Ieee.{Float, nan, inf, fin, up, down, neg, le}
use lib.Ieee.Fits.{down_pos, and_l, and_i, eq→eqb}
use lib.Ieee.Exact.{HasValue}
use Rattle.floats.specs.Bounds.{Within}
use Rattle.floats.proofs.Within.{le_of_test, cut}

paste : (x e y d A : ℕ) → y * 1 ≡ A * d → x ≤ A * e → x * d ≤ y * e
paste x e y d A p h = le_trans (mul-le-mul_right d h) (le_of_eq (mul_right_comm A e d ∙ ap (λ (z : ℕ). z * e) (sym p ∙ mul-one y)))

pub flip : (a b : ℕ) (w : Bool) → T (ltb b a || (eqb a b && w)) → b ≤ a
flip a b w t = elim (or_yes (ltb b a) (eqb a b && w) t) [ inl u ↦ lower (ltb→lt b a u) | inr u ↦ same (eqb→eq a b (and_l (eqb a b) w u)) ]
  where
    lower : b < a → b ≤ a
    lower h = omega arith

    same : a ≡ b → b ≤ a
    same h = omega arith

-- ---- from the tests to the bound: y is A, and -A ≤ x ≤ A
pub within_of_le : (A : ℕ) (x y : Float) → HasValue y false A 1 → T (le (neg y) x) → T (le x y) → Within A x
unfolding le neg
within_of_le A x nan v a b = absurd v
within_of_le A x (inf u) v a b = absurd v
within_of_le A x (fin true n d) v a b = absurd (true≢false v.0)
within_of_le A nan (fin false n d) v a b = absurd b
within_of_le A (inf true) (fin false n d) v a b = absurd a
within_of_le A (inf false) (fin false n d) v a b = absurd b
within_of_le A (fin true m e) (fin false n d) v a b =
    cut (m * up e) (down e) (n * up d) (down d) A (down_pos d) v.1 (flip (n * up d * down e) (m * up e * down d) true a)
within_of_le A (fin false m e) (fin false n d) v a b =
    cut (m * up e) (down e) (n * up d) (down d) A (down_pos d) v.1 (le_of_test (m * up e * down d) (n * up d * down e) true b)

-- ---- and back
pub or_l : (a b : Bool) → T a → T (a || b)
or_l true b t = tt
or_l false b t = absurd t

pub or_r : (a b : Bool) → T b → T (a || b)
or_r true b t = tt
or_r false b t = t

test_of_le : (a b : ℕ) → a ≤ b → T (ltb a b || (eqb a b && true))
test_of_le a b h =
    elim (eq-or-lt_of_le h) [
      | inl p ↦ or_r (ltb a b) (eqb a b && true) (and_i (eqb a b) true (eq→eqb p) tt)
      | inr q ↦ or_l (ltb a b) (eqb a b && true)
          (lt→ltb a b q)
    ]

test_flip : (a b : ℕ) → b ≤ a → T (ltb b a || (eqb a b && true))
test_flip a b h =
    elim (eq-or-lt_of_le h) [
      | inl p ↦ or_r (ltb b a) (eqb a b && true) (and_i (eqb a b) true (eq→eqb (sym p)) tt)
      | inr q ↦ or_l (ltb b a) (eqb a b && true)
          (lt→ltb b a q)
    ]

-- a negative number is at most one that is not
test_across : (a b : ℕ) → T (ltb 0 (a + b) || (eqb a b && (false || eqb a 0)))
test_across a b = go (ltb 0 (a + b)) (nltb→le 0 (a + b))
  where
    none : a + b ≤ 0 → a ≡ 0
    none h = omega arith

    none' : a + b ≤ 0 → a ≡ b
    none' h = omega arith

    go : (t : Bool) → (T (not t) → a + b ≤ 0) → T (t || (eqb a b && (false || eqb a 0)))
    go true k = tt
    go false k = and_i (eqb a b) (eqb a 0) (eq→eqb (none' (k tt))) (eq→eqb (none (k tt)))

pub le_of_within : (A : ℕ) (x y : Float) → HasValue y false A 1 → Within A x → T (le (neg y) x) × T (le x y)
unfolding le neg
le_of_within A x nan v h = absurd v
le_of_within A x (inf u) v h = absurd v
le_of_within A x (fin true n d) v h = absurd (true≢false v.0)
le_of_within A nan (fin false n d) v h = absurd h
le_of_within A (inf s) (fin false n d) v h = absurd h
le_of_within A (fin true m e) (fin false n d) v h = (
  test_flip (n * up d * down e) (m * up e * down d) (paste (m * up e) (down e) (n * up d) (down d) A v.1 h),
  test_across (m * up e * down d)
      (n * up d * down e),
)
le_of_within A (fin false m e) (fin false n d) v h = (
  test_across (n * up d * down e) (m * up e * down d),
  test_of_le (m * up e * down d) (n * up d * down e)
      (paste (m * up e) (down e) (n * up d) (down d) A v.1 h),
)
