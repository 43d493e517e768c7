-- The cube root: `root_of n` is the whole number nearest to the cube root of n, there is one alone, and the root is never halfway between two. What
-- the code compares in place of cubes of halves decides the same. What callers use is `million`, the root's bound, and `doubled`, how it grows.
-- Assumes nothing.
use mathlib.Core.Path.{◌≡◌, subst}
use mathlib.Core.Logic.{◌⊎◌, inl, inr}
use mathlib.Core.Bool.{Bool, true, false, cond, not}
use Prim.Native.Nat.{ℕ, zero, suc, ◌+◌, ◌-◌, ◌*◌, ◌^◌, ◌≤◌, ◌<◌}
use native.Mathlib.Nat.{le_of_lt, eq-or-lt_of_le, lt_of_not-le, mul-le-mul, mul_assoc, mul_left_comm, mul-add, add-mul, suc-mul, mul-suc, two-pow-succ}
use native.Mathlib.Omega.{arith}
use lib.Dec.{T, ltb, ltb→lt, lt→ltb, nltb→le}
use Rattle.floats.proofs.At.{same_test}
use Rattle.conversion.specs.Root.{cube, Root, too_high, digits, root_of}

-- ---- cubes
cube_mono : {a b : ℕ} → a ≤ b → cube a ≤ cube b
cube_mono h = mul-le-mul (mul-le-mul h h) h

-- a number is below another where its cube is
cube_below : (a b n : ℕ) → cube a ≤ n → n < cube b → a < b
cube_below a b n p q = lt_of_not-le (λ h. let m = cube_mono h in omega arith)

-- ---- a half's cube is never whole: eight times it is odd
odd_cube : (c : ℕ) → cube (2 * c + 1) ≡ 2 * (c * (4 * (c * c) + 3) + 6 * (c * c)) + 1
odd_cube c = simp (mul-add, add-mul, mul_assoc, mul_left_comm) (omega arith)

pub no_tie : (n c : ℕ) → 8 * n ≡ cube (2 * c + 1) → ⊥
no_tie n c e = omega (arith, odd_cube c)

-- so the root is below the half above the number nearest to it
below_half : {n c : ℕ} → Root n c → 8 * n < cube (2 * c + 1)
below_half {n} {c} p = go (eq-or-lt_of_le p.high)
  where
    go : (8 * n ≡ cube (2 * c + 1)) ⊎ (8 * n < cube (2 * c + 1)) → 8 * n < cube (2 * c + 1)
    go (inl e) = absurd (no_tie n c e)
    go (inr h) = h

-- ---- one root alone
pub only_one : (n a b : ℕ) → Root n a → Root n b → a ≡ b
only_one n a b p q =
    let x = cube_below (2 * a - 1) (2 * b + 1) (8 * n) p.low (below_half q) in
    let y = cube_below (2 * b - 1) (2 * a + 1) (8 * n) q.low (below_half p) in
    omega arith

-- ---- `root_of` is the root
-- the half below one more is the half above
next_half : (c : ℕ) → 2 * (c + 1) - 1 ≡ 2 * c + 1
next_half c = omega arith

-- from a number c that is not too high, where with 2^k more it is
digits_root : (n k c : ℕ) → cube (2 * c - 1) ≤ 8 * n → 8 * n < cube (2 * (c + 2 ^ k) - 1) → Root n (digits n k c)
unfolding digits
digits_root n zero c p q = record { low = p; high = le_of_lt (subst (λ (x : ℕ). 8 * n < cube x) (next_half c) q) }
digits_root n (suc k) c p q =
    go (too_high n (c + 2 ^ k))
    (λ t. digits_root n k c p (ltb→lt _ _ t))
    (λ t. digits_root n k (c + 2 ^ k) (nltb→le _ _ t) (subst (λ (x : ℕ). 8 * n < cube (2 * x - 1)) twice q))
  where
    twice : c + 2 ^ suc k ≡ c + 2 ^ k + 2 ^ k
    twice = omega (arith, two-pow-succ k)

    go : (t : Bool) → (T t → Root n (digits n k c)) → (T (not t) → Root n (digits n k (c + 2 ^ k)))
        → Root n (digits n k (cond t c (c + 2 ^ k)))
    go true f g = f tt
    go false f g = g tt

pub root_is : (n : ℕ) → n ≤ 1000000000000000000 → Root n (root_of n)
unfolding root_of
root_is n h = digits_root n 20 0 (omega arith) (omega arith)

-- what is neither too high nor too low, is `root_of`
pub is_root : (n c : ℕ) → n ≤ 1000000000000000000 → cube (2 * c - 1) ≤ 8 * n → 8 * n ≤ cube (2 * c + 1) → c ≡ root_of n
is_root n c h p q = only_one n c (root_of n) (record { low = p; high = q }) (root_is n h)

-- ---- what the code compares
same_order : (a b c d : ℕ) → (a < b → c < d) → (c < d → a < b) → ltb a b ≡ ltb c d
same_order a b c d f g = same_test (ltb a b) (ltb c d) (λ t. lt→ltb c d (f (ltb→lt a b t))) (λ t. lt→ltb a b (g (ltb→lt c d t)))

pub too_high_test : (n c : ℕ) → ltb (4 * n + 6 * (c * c)) (c * (4 * (c * c) + 3)) ≡ too_high n c
too_high_test n zero = same_order (4 * n + 0) 0 (8 * n) 0 (λ h. omega arith) (λ h. omega arith)
too_high_test n (suc c) =
    subst (λ (x : ℕ). ltb (4 * n + 6 * (suc c * suc c)) (suc c * (4 * (suc c * suc c) + 3)) ≡ ltb (8 * n) (cube x)) half
    (same_order (4 * n + 6 * (suc c * suc c)) (suc c * (4 * (suc c * suc c) + 3)) (8 * n) (cube (2 * c + 1))
    (λ h. omega (arith, odd))
    (λ h. omega (arith, odd)))
  where
    half : 2 * c + 1 ≡ 2 * suc c - 1
    half = omega arith

    odd : cube (2 * c + 1) + 2 * (6 * (suc c * suc c)) + 1 ≡ 2 * (suc c * (4 * (suc c * suc c) + 3))
    odd = simp (suc-mul, mul-suc, mul-add, add-mul, mul_assoc, mul_left_comm) (omega arith)

-- ---- what callers use
-- where n is at most 10^18, what is not too high is at most a million
pub at_most_million : (n c : ℕ) → n ≤ 1000000000000000000 → cube (2 * c - 1) ≤ 8 * n → c ≤ 1000000
at_most_million n c h k = let z = cube_below (2 * c - 1) 2000001 (8 * n) k (omega arith) in omega arith

pub million : (n : ℕ) → n ≤ 1000000000000000000 → root_of n ≤ 1000000
million n h = at_most_million n (root_of n) h (root_is n h).low

cube_double : (b : ℕ) → cube (2 * b) ≡ 8 * cube b
cube_double b = simp (mul_assoc, mul_left_comm) (omega arith)

-- eight times as much has twice the root, or one more
pub doubled : (n k : ℕ) → n ≤ 1000000000000000000 → k ≤ 1000000000000000000 → n ≤ 8 * k → root_of n ≤ 2 * root_of k + 1
doubled n k N K h =
    let b = 2 * root_of k + 1 in
    let K' = below_half (root_is k K) in
    let x = cube_below (2 * root_of n - 1) (2 * b) (8 * n) (root_is n N).low (omega (arith, cube_double b)) in
    omega arith
