-- The table of linear values: the rule holds at each of its 256 entries, by one computed test; the rule determines the value; no value
-- exceeds 10^8; and bytes that hold the rests give each value, with the curve. Assumes nothing.
use mathlib.Core.Path.{◌≡◌, refl, sym, ap, ◌∙◌}
use mathlib.Core.List.{List, [], ◌∷◌}
use mathlib.Core.Bool.{Bool, true, false, cond}
use Prim.Native.Nat.{ℕ, zero, suc, ◌+◌, ◌-◌, ◌*◌, ◌^◌, ◌≤◌, ◌<◌}
use native.Mathlib.Nat.{le_antisymm, lt_of_not-le, mul-le-mul_left, pow-le-pow_left, add-zero, zero-add, not-suc-le-zero}
use native.Mathlib.Omega.{arith}
use lib.ListN.{length, get_or}
use lib.Dec.{T, eqb, ltb, leb, eqb→eq, ltb→lt, leb→le}
use lib.Ieee.Fits.{and_l, and_r}
use Rattle.lists.specs.Gather.{gather}
use Rattle.lists.proofs.Computed.{each}
use Rattle.conversion.specs.Linear.{is_nearest, is_linear, values, linear_of, value_in, in_rests}

-- ---- the rule at every entry
pub rule : (k : ℕ) → k < 256 → T (is_linear k (linear_of k))
unfolding is_linear is_nearest linear_of
rule k h = each (λ k. is_linear k (linear_of k)) 256 refl k h

pub small : (k : ℕ) → k < 256 → linear_of k ≤ 100000000
unfolding linear_of
small k h = leb→le (linear_of k) 100000000 (each (λ k. leb (linear_of k) 100000000) 256 refl k h)

pub value_small : (k x : ℕ) → x ≡ linear_of k → k < 256 → x ≤ 100000000
value_small k x e h = rw e (small k h)

-- ---- a list that is the table
pub entry : (l : List ℕ) (k : ℕ) → l ≡ values → get_or l k 0 ≡ linear_of k
unfolding linear_of
entry l k e = ap (λ (l : List ℕ). get_or l k 0) e

-- the table, value by value
pub all_values : (l : List ℕ) → l ≡ gather 256 (λ k. linear_of k ∷ []) → l ≡ values
unfolding linear_of gather
all_values l e = e

-- ---- one value alone: of two nearest numbers neither is above the other
nearest_le : (e d x t u : ℕ) → T (is_nearest e d x t) → T (is_nearest e d x u) → t ≤ u
unfolding is_nearest
nearest_le e d x t u p q =
    let a = d * (2 * t - 1) ^ e in
    let b = d * (2 * u + 1) ^ e in
    let A = leb→le a x (and_l (leb a x) (ltb x (d * (2 * t + 1) ^ e)) p) in
    let B = ltb→lt x b (and_r (leb (d * (2 * u - 1) ^ e) x) (ltb x b) q) in
    let h : 2 * t - 1 < 2 * u + 1 = lt_of_not-le (λ k. let z = mul-le-mul_left d (pow-le-pow_left k e) in omega arith) in
    omega arith

pub only_one : (k t u : ℕ) → T (is_linear k t) → T (is_linear k u) → t ≡ u
unfolding is_linear
only_one k t u = go (leb k 10) _ _ _ _ _ _
  where
    nearest_one : (e d x : ℕ) → T (is_nearest e d x t) → T (is_nearest e d x u) → t ≡ u
    nearest_one e d x p q = le_antisymm (nearest_le e d x t u p q) (nearest_le e d x u t q p)

    go : (c : Bool) (e d x e' d' x' : ℕ) → T (cond c (is_nearest e d x t) (is_nearest e' d' x' t))
        → T (cond c (is_nearest e d x u) (is_nearest e' d' x' u)) → t ≡ u
    go true e d x e' d' x' = nearest_one e d x
    go false e d x e' d' x' = nearest_one e' d' x'

-- ---- the table as the curve and the rests
in_rests_lem : (rests xs : List ℕ) (i : ℕ) → T (in_rests rests i xs) → (k : ℕ) → k < length xs → value_in rests (i + k) ≡ get_or xs k 0
in_rests_lem rests [] i t k h = absurd (not-suc-le-zero h)
in_rests_lem rests (x ∷ xs) i t zero h = rw add-zero (eqb→eq (value_in rests i) x (and_l (eqb (value_in rests i) x) (in_rests rests (i + 1) xs) t))
in_rests_lem rests (x ∷ xs) i t (suc k) h =
    let e : i + suc k ≡ i + 1 + k = omega arith in
    ap (value_in rests) e
    ∙ in_rests_lem rests xs (i + 1) (and_r (eqb (value_in rests i) x) (in_rests rests (i + 1) xs) t) k (omega arith)

pub rest_value : (rests : List ℕ) (k : ℕ) → T (in_rests rests 0 values) → k < 256 → value_in rests k ≡ linear_of k
unfolding linear_of
rest_value rests k t h = ap (value_in rests) (sym (zero-add k)) ∙ in_rests_lem rests values 0 t k h
