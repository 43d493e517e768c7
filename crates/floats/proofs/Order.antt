-- The order of f32 values that are finite and not negative, -0 left out: `lt` is a strict total order on them, and two of which neither is below the other
-- are equal as data. Of any floats, NaN, infinities and -0 among them, `lt` is irreflexive and transitive. Assumes nothing.
use mathlib.Core.Path.{◌≡◌, refl, sym, subst}
use mathlib.Core.Logic.{◌⊎◌, inl, inr}
use Prim.Native.Nat.{ℕ, ◌+◌, ◌*◌, ◌≤◌, ◌<◌}
use native.Mathlib.Nat.{le_antisymm, le_of_lt, le_trans, le_of_eq, lt_irrefl, lt_of_le_of_lt}
use native.Mathlib.Nat.{lt_of_lt_of_le, lt_of_mul-lt-mul_right, mul-lt-mul_of_pos_right, mul-le-mul_right, mul_right_comm, mul-pos}
use native.Mathlib.Omega.{arith}
use mathlib.Core.Bool.{Bool, true, false, not}
use lib.Dec.{T, ltb, ltb→lt, lt→ltb, nltb→le}
use lib.Arith.{le→nltb}
use lib.Ieee.{Float, nan, inf, fin, Format, up, down, lt, fits, is_nan}
use lib.Ieee.Fits.{down_pos}
use lib.Ieee.Positive.{num, den, den_pos, first_pos, through}
use Rattle.floats.specs.Bounds.{Within, Upto}
use Rattle.floats.proofs.Unique.{same_data}

-- finite, not negative, not -0
abbrev pub Plain : Float → Type 0
Plain nan = ⊥
Plain (inf s) = ⊥
Plain (fin true m e) = ⊥
Plain (fin false m e) = Unit {0}

pub upto_plain : (A : ℕ) (x : Float) → Upto A x → Plain x
upto_plain A nan h = h
upto_plain A (inf s) h = h
upto_plain A (fin true m e) h = h
upto_plain A (fin false m e) h = tt

pub within_not_nan : (A : ℕ) (x : Float) → Within A x → T (not (is_nan x))
unfolding is_nan
within_not_nan A nan h = absurd h
within_not_nan A (inf s) h = absurd h
within_not_nan A (fin s m e) h = tt

pub lt_is : (x y : Float) → Plain x → Plain y → lt x y ≡ ltb (num x * den y) (num y * den x)
unfolding lt
lt_is nan y p q = absurd p
lt_is (inf s) y p q = absurd p
lt_is (fin true m e) y p q = absurd p
lt_is (fin false m e) nan p q = absurd q
lt_is (fin false m e) (inf t) p q = absurd q
lt_is (fin false m e) (fin true n d) p q = absurd q
lt_is (fin false m e) (fin false n d) p q = refl

pub lt→cross : (x y : Float) → Plain x → Plain y → T (lt x y) → num x * den y < num y * den x
lt→cross x y p q t = ltb→lt (num x * den y) (num y * den x) (subst T (lt_is x y p q) t)

pub nlt→cross : (x y : Float) → Plain x → Plain y → T (not (lt x y)) → num y * den x ≤ num x * den y
nlt→cross x y p q t = nltb→le (num x * den y) (num y * den x) (subst (λ (b : Bool). T (not b)) (lt_is x y p q) t)

pub cross→nlt : (x y : Float) → Plain x → Plain y → num y * den x ≤ num x * den y → T (not (lt x y))
cross→nlt x y p q h = subst (λ (b : Bool). T (not b)) (sym (lt_is x y p q)) (le→nltb (num x * den y) (num y * den x) h)

-- ---- of any floats
pub lt_irreflexive : (x : Float) → T (lt x x) → ⊥
unfolding lt
lt_irreflexive nan t = t
lt_irreflexive (inf true) t = t
lt_irreflexive (inf false) t = t
lt_irreflexive (fin true m e) t = lt_irrefl (m * up e * down e) (ltb→lt (m * up e * down e) (m * up e * down e) t)
lt_irreflexive (fin false m e) t = lt_irrefl (m * up e * down e) (ltb→lt (m * up e * down e) (m * up e * down e) t)

-- x / p < y / q < z / r
strict : (x y z p q r : ℕ) → 0 < r → 0 < p → x * q < y * p → y * r < z * q → x * r < z * p
strict x y z p q r R P h k =
    lt_of_mul-lt-mul_right q
    (lt_of_le_of_lt (le_of_eq (mul_right_comm x r q))
    (lt_of_lt_of_le (mul-lt-mul_of_pos_right h R)
    (le_trans (le_of_eq (mul_right_comm y p r)) (le_trans (mul-le-mul_right p (le_of_lt k)) (le_of_eq (mul_right_comm z q p))))))

right_pos : (a b : ℕ) → 0 < b → 0 < a + b
right_pos a b h = omega arith

left_pos : (a b : ℕ) → 0 < a → 0 < a + b
left_pos a b h = omega arith

above : (a b : ℕ) → a < b → 0 < b
above a b h = omega arith

-- y / q < z / r, so z is above 0, whatever it is multiplied by
grows : (y z q r p : ℕ) → 0 < p → y * r < z * q → 0 < z * p
grows y z q r p P h = mul-pos (first_pos z q (above (y * r) (z * q) h)) P

pub lt_transitive : (x y z : Float) → T (lt x y) → T (lt y z) → T (lt x z)
unfolding lt
lt_transitive nan y z h k = absurd h
lt_transitive (inf s) nan z h k = absurd h
lt_transitive (inf true) (inf true) z h k = absurd h
lt_transitive (inf true) (inf false) nan h k = absurd k
lt_transitive (inf true) (inf false) (inf true) h k = absurd k
lt_transitive (inf true) (inf false) (inf false) h k = absurd k
lt_transitive (inf true) (inf false) (fin u o g) h k = absurd k
lt_transitive (inf true) (fin t n d) nan h k = absurd k
lt_transitive (inf true) (fin t n d) (inf true) h k = absurd k
lt_transitive (inf true) (fin t n d) (inf false) h k = tt
lt_transitive (inf true) (fin t n d) (fin u o g) h k = tt
lt_transitive (inf false) (inf t) z h k = absurd h
lt_transitive (inf false) (fin t n d) z h k = absurd h
lt_transitive (fin s m e) nan z h k = absurd h
lt_transitive (fin s m e) (inf true) z h k = absurd h
lt_transitive (fin s m e) (inf false) nan h k = absurd k
lt_transitive (fin s m e) (inf false) (inf u) h k = absurd k
lt_transitive (fin s m e) (inf false) (fin u o g) h k = absurd k
lt_transitive (fin s m e) (fin t n d) nan h k = absurd k
lt_transitive (fin s m e) (fin t n d) (inf true) h k = absurd k
lt_transitive (fin s m e) (fin t n d) (inf false) h k = tt
lt_transitive (fin false m e) (fin true n d) (fin u o g) h k = absurd h
lt_transitive (fin false m e) (fin false n d) (fin true o g) h k = absurd k
lt_transitive (fin false m e) (fin false n d) (fin false o g) h k =
    lt→ltb (m * up e * down g) (o * up g * down e)
    (strict (m * up e) (n * up d) (o * up g) (down e) (down d) (down g) (down_pos g) (down_pos e)
    (ltb→lt (m * up e * down d) (n * up d * down e) h) (ltb→lt (n * up d * down g) (o * up g * down d) k))
lt_transitive (fin true m e) (fin false n d) (fin true o g) h k = absurd k
lt_transitive (fin true m e) (fin false n d) (fin false o g) h k =
    lt→ltb 0 (m * up e * down g + o * up g * down e)
    (right_pos (m * up e * down g) (o * up g * down e)
    (grows (n * up d) (o * up g) (down d) (down g) (down e) (down_pos e) (ltb→lt (n * up d * down g) (o * up g * down d) k)))
lt_transitive (fin true m e) (fin true n d) (fin false o g) h k =
    lt→ltb 0 (m * up e * down g + o * up g * down e)
    (left_pos (m * up e * down g) (o * up g * down e)
    (grows (n * up d) (m * up e) (down d) (down e) (down g) (down_pos g) (ltb→lt (n * up d * down e) (m * up e * down d) h)))
lt_transitive (fin true m e) (fin true n d) (fin true o g) h k =
    lt→ltb (o * up g * down e) (m * up e * down g)
    (strict (o * up g) (n * up d) (m * up e) (down g) (down d) (down e) (down_pos e) (down_pos g)
    (ltb→lt (o * up g * down d) (n * up d * down g) k) (ltb→lt (n * up d * down e) (m * up e * down d) h))

-- ---- where they are finite, not negative and not -0: the laws of a strict total order
pub lt_asymmetric : (x y : Float) → Plain x → Plain y → T (lt x y) → T (not (lt y x))
lt_asymmetric x y p q t = cross→nlt y x q p (le_of_lt (lt→cross x y p q t))

-- x ≤ y ≤ z, said by `lt`
pub nlt_trans : (x y z : Float) → Plain x → Plain y → Plain z → T (not (lt y x)) → T (not (lt z y)) → T (not (lt z x))
nlt_trans x y z p q r h k = cross→nlt z x r p (through (num x) (num y) (num z) (den x) (den y) (den z) (den_pos y) (nlt→cross y x q p h) (nlt→cross z y r q k))

not_both : (b c : Bool) → (T (not c) → T (not b)) → T b → T c
not_both true true h t = tt
not_both true false h t = h tt
not_both false c h t = absurd t

-- x < y ≤ z
pub lt_nlt_trans : (x y z : Float) → Plain x → Plain y → Plain z → T (lt x y) → T (not (lt z y)) → T (lt x z)
lt_nlt_trans x y z p q r h k = not_both (lt x y) (lt x z) (λ n. nlt_trans y z x q r p k n) h

-- x ≤ y < z
pub nlt_lt_trans : (x y z : Float) → Plain x → Plain y → Plain z → T (not (lt y x)) → T (lt y z) → T (lt x z)
nlt_lt_trans x y z p q r h k = not_both (lt y z) (lt x z) (λ n. nlt_trans z x y r p q n h) k

-- ---- neither below the other
pub equal_of_nlt : (f : Format) (x y : Float) → Plain x → Plain y → T (fits f x) → T (fits f y) → T (not (lt x y)) → T (not (lt y x)) → x ≡ y
equal_of_nlt f nan y p q a b h k = absurd p
equal_of_nlt f (inf s) y p q a b h k = absurd p
equal_of_nlt f (fin true m e) y p q a b h k = absurd p
equal_of_nlt f (fin false m e) nan p q a b h k = absurd q
equal_of_nlt f (fin false m e) (inf t) p q a b h k = absurd q
equal_of_nlt f (fin false m e) (fin true n d) p q a b h k = absurd q
equal_of_nlt f (fin false m e) (fin false n d) p q a b h k =
    same_data f false m e n d a b (le_antisymm (nlt→cross (fin false n d) (fin false m e) q p k) (nlt→cross (fin false m e) (fin false n d) p q h))

pub trichotomy : (f : Format) (x y : Float) → Plain x → Plain y → T (fits f x) → T (fits f y) → T (lt x y) ⊎ ((x ≡ y) ⊎ T (lt y x))
trichotomy f x y p q a b = go (lt x y) (lt y x) (λ t u. equal_of_nlt f x y p q a b t u)
  where
    go : (s t : Bool) → (T (not s) → T (not t) → x ≡ y) → T s ⊎ ((x ≡ y) ⊎ T t)
    go true t e = inl tt
    go false true e = inr (inr tt)
    go false false e = inr (inl (e tt tt))
