-- Bounded operands give a bounded result, so no sum, difference or product of them is an infinity or a NaN. Bounds are whole numbers up to 2 ^ 24, which
-- f32 holds. Assumes nothing.
use mathlib.Core.Path.{◌≡◌, refl, sym, ap, ◌∙◌, subst}
use mathlib.Core.Logic.{inl, inr}
use Prim.Native.Nat.{ℕ, zero, suc, ◌+◌, ◌-◌, ◌*◌, ◌/◌, ◌%◌, ◌^◌, ◌≤◌, ◌<◌, compare}
use native.Mathlib.Nat.{le_trans, le_of_eq, le_of_lt, mul_assoc, mul_comm, mul-one}
use native.Mathlib.Nat.{mul_right_comm, mul-mul-mul_comm, mul-le-mul, mul-le-mul_right, le_of_mul-le-mul_right, add-mul, mul-pos}
use native.Mathlib.Omega.{arith}
use mathlib.Core.Bool.{Bool, true, false, ◌&&◌, ◌||◌, beq, cond, true≢false}
use lib.Dec.{T, ltb, eqb, ltb→lt, eqb→eq, lit<}
use mir.Facts.{or_yes}
use lib.Ieee.{Float, nan, inf, fin, Format, binary32, prec, low, size, nearest, unlike, up, down, odd, units, round, neg, sum, add, sub, mul, le}
use lib.Ieee.Fits.{down_pos, round_is, and_l}
use lib.Ieee.Exact.{HasValue}
use lib.Ieee.Order.{round_mono}
use lib.Ieee.Back.{round_whole}
use Rattle.floats.specs.Bounds.{Within, Upto}

-- ---- the sign of a rounded fraction is the one it is handed
abbrev pub Signed : Bool → Float → Type 0
Signed s nan = ⊥
Signed s (inf t) = t ≡ s
Signed s (fin t m e) = t ≡ s

odd_signed : (d : ℕ) (s : Bool) (q k l : ℕ) → Signed s (odd d s q k l)
unfolding odd
odd_signed d s zero k l = refl
odd_signed d s (suc q) k l = refl

units_signed : (f : Format) (s : Bool) (q k : ℕ) → Signed s (units f s q k)
unfolding units
units_signed f s q k = go (ltb (q * 2 ^ k) (2 ^ (low f + suc (lib.Ieee.emax f))))
  where
    go : (b : Bool) → Signed s (cond b (odd (suc (prec f)) s q k (low f)) (inf s))
    go true = odd_signed (suc (prec f)) s q k (low f)
    go false = refl

pub round_signed : (f : Format) (s : Bool) (a c : ℕ) → Signed s (round f s a c)
round_signed f s a c =
    subst (λ (x : Float). Signed s x) (sym (round_is f s a c))
    (units_signed f s (nearest (a * 2 ^ low f / (c * 2 ^ k)) (compare (a * 2 ^ low f % (c * 2 ^ k) * 2) (c * 2 ^ k))) k)
  where
    k : ℕ
    k = size (a * 2 ^ low f / c) - prec f

-- and its size does not depend on the sign
odd_neg : (d q k l : ℕ) → odd d true q k l ≡ neg (odd d false q k l)
unfolding odd neg
odd_neg d zero k l = refl
odd_neg d (suc q) k l = refl

units_neg : (f : Format) (q k : ℕ) → units f true q k ≡ neg (units f false q k)
unfolding units neg
units_neg f q k = go (ltb (q * 2 ^ k) (2 ^ (low f + suc (lib.Ieee.emax f))))
  where
    go : (b : Bool) → cond b (odd (suc (prec f)) true q k (low f)) (inf true) ≡ neg (cond b (odd (suc (prec f)) false q k (low f)) (inf false))
    go true = odd_neg (suc (prec f)) q k (low f)
    go false = refl

pub round-neg : (f : Format) (a c : ℕ) → round f true a c ≡ neg (round f false a c)
round-neg f a c =
    let k = size (a * 2 ^ low f / c) - prec f in
    round_is f true a c ∙ units_neg f (nearest (a * 2 ^ low f / (c * 2 ^ k)) (compare (a * 2 ^ low f % (c * 2 ^ k) * 2) (c * 2 ^ k))) k ∙ ap neg
    (sym (round_is f false a c))

-- ---- `Within` and `Upto`
pub upto_within : (A : ℕ) (x : Float) → Upto A x → Within A x
upto_within A nan h = h
upto_within A (inf s) h = h
upto_within A (fin true m e) h = absurd h
upto_within A (fin false m e) h = h

pub within_neg : (A : ℕ) (x : Float) → Within A x → Within A (neg x)
unfolding neg
within_neg A nan h = h
within_neg A (inf s) h = h
within_neg A (fin s m e) h = h

-- ---- below a value that is A
pub le_of_test : (a b : ℕ) (w : Bool) → T (ltb a b || (eqb a b && w)) → a ≤ b
le_of_test a b w t = elim (or_yes (ltb a b) (eqb a b && w) t) [ inl u ↦ le_of_lt (ltb→lt a b u) | inr u ↦ le_of_eq (eqb→eq a b (and_l (eqb a b) w u)) ]

pub cut : (x e y d A : ℕ) → 0 < d → y * 1 ≡ A * d → x * d ≤ y * e → x ≤ A * e
cut x e y d A D p h = le_of_mul-le-mul_right (le_trans h (le_of_eq (ap (λ (z : ℕ). z * e) (sym (mul-one y) ∙ p) ∙ mul_right_comm A d e))) D

pub upto_of_le : (A : ℕ) (x y : Float) → Signed false x → HasValue y false A 1 → T (le x y) → Upto A x
unfolding le
upto_of_le A nan y s v t = absurd t
upto_of_le A (inf true) y s v t = absurd (true≢false s)
upto_of_le A (inf false) nan s v t = absurd t
upto_of_le A (inf false) (inf u) s v t = absurd v
upto_of_le A (inf false) (fin u n d) s v t = absurd t
upto_of_le A (fin true m e) y s v t = absurd (true≢false s)
upto_of_le A (fin false m e) nan s v t = absurd t
upto_of_le A (fin false m e) (inf u) s v t = absurd v
upto_of_le A (fin false m e) (fin true n d) s v t = absurd (true≢false v.0)
upto_of_le A (fin false m e) (fin false n d) s v t =
    cut (m * up e) (down e) (n * up d) (down d) A (down_pos d) v.1 (le_of_test (m * up e * down d) (n * up d * down e) true t)

-- ---- a fraction that is at most A rounds to a value that is at most A
pub round_upto : (A a c : ℕ) → 0 < c → A ≤ 2 ^ 24 → a ≤ A * c → Upto A (round binary32 false a c)
round_upto A a c C L h =
    upto_of_le A (round binary32 false a c) (round binary32 false A 1) (round_signed binary32 false a c) (round_whole binary32 false A L)
    (round_mono binary32 a c A 1 C (lit< tt) (le_trans (le_of_eq (mul-one a)) h))

pub round_within : (s : Bool) (A a c : ℕ) → 0 < c → A ≤ 2 ^ 24 → a ≤ A * c → Within A (round binary32 s a c)
round_within false A a c C L h = upto_within A (round binary32 false a c) (round_upto A a c C L h)
round_within true A a c C L h =
    subst (λ (x : Float). Within A x) (sym (round-neg binary32 a c))
    (within_neg A (round binary32 false a c) (upto_within A (round binary32 false a c) (round_upto A a c C L h)))

-- ---- products
pub mul_within : (A B : ℕ) (x y : Float) → A * B ≤ 2 ^ 24 → Within A x → Within B y → Within (A * B) (mul binary32 x y)
unfolding mul
mul_within A B nan y L h k = absurd h
mul_within A B (inf s) y L h k = absurd h
mul_within A B (fin s m e) nan L h k = absurd k
mul_within A B (fin s m e) (inf t) L h k = absurd k
mul_within A B (fin s m e) (fin t n d) L h k =
    round_within (unlike s t) (A * B) (m * up e * (n * up d)) (down e * down d) (mul-pos (down_pos e) (down_pos d)) L
    (le_trans (mul-le-mul h k) (le_of_eq (mul-mul-mul_comm A (down e) B (down d))))

pub mul_upto : (A B : ℕ) (x y : Float) → A * B ≤ 2 ^ 24 → Upto A x → Upto B y → Upto (A * B) (mul binary32 x y)
unfolding mul
mul_upto A B nan y L h k = absurd h
mul_upto A B (inf s) y L h k = absurd h
mul_upto A B (fin true m e) y L h k = absurd h
mul_upto A B (fin false m e) nan L h k = absurd k
mul_upto A B (fin false m e) (inf t) L h k = absurd k
mul_upto A B (fin false m e) (fin true n d) L h k = absurd k
mul_upto A B (fin false m e) (fin false n d) L h k =
    round_upto (A * B) (m * up e * (n * up d)) (down e * down d) (mul-pos (down_pos e) (down_pos d)) L
    (le_trans (mul-le-mul h k) (le_of_eq (mul-mul-mul_comm A (down e) B (down d))))

-- a square is not negative, and not -0
pub square_upto : (A : ℕ) (x : Float) → A * A ≤ 2 ^ 24 → Within A x → Upto (A * A) (mul binary32 x x)
unfolding mul
square_upto A nan L h = absurd h
square_upto A (inf s) L h = absurd h
square_upto A (fin true m e) L h =
    round_upto (A * A) (m * up e * (m * up e)) (down e * down e) (mul-pos (down_pos e) (down_pos e)) L
    (le_trans (mul-le-mul h h) (le_of_eq (mul-mul-mul_comm A (down e) A (down e))))
square_upto A (fin false m e) L h =
    round_upto (A * A) (m * up e * (m * up e)) (down e * down e) (mul-pos (down_pos e) (down_pos e)) L
    (le_trans (mul-le-mul h h) (le_of_eq (mul-mul-mul_comm A (down e) A (down e))))

-- ---- sums
first : (a b X Y : ℕ) → a ≤ X → b ≤ Y → a + b ≤ X + Y
first a b X Y h k = omega arith

second : (a b X Y : ℕ) → a ≤ X → a - b ≤ X + Y
second a b X Y h = omega arith

third : (a b X Y : ℕ) → b ≤ Y → b - a ≤ X + Y
third a b X Y h = omega arith

sum_within : (s : Bool) (a : ℕ) (t : Bool) (b c A B : ℕ) → 0 < c → A + B ≤ 2 ^ 24 → a ≤ A * c → b ≤ B * c → Within (A + B) (sum binary32 s a t b c)
unfolding sum
sum_within s a t b c A B C L h k = go (beq s t) (ltb a b)
  where
    wide : (z : ℕ) → z ≤ A * c + B * c → z ≤ (A + B) * c
    wide z p = le_trans p (le_of_eq (sym (add-mul A B c)))

    go : (u v : Bool) → Within (A + B) (cond u (round binary32 s (a + b) c) (cond v (round binary32 t (b - a) c) (round binary32 (s && ltb b a) (a - b) c)))
    go true v = round_within s (A + B) (a + b) c C L (wide (a + b) (first a b (A * c) (B * c) h k))
    go false true = round_within t (A + B) (b - a) c C L (wide (b - a) (third a b (A * c) (B * c) k))
    go false false = round_within (s && ltb b a) (A + B) (a - b) c C L (wide (a - b) (second a b (A * c) (B * c) h))

onto : (x e A d : ℕ) → x ≤ A * e → x * d ≤ A * (e * d)
onto x e A d h = le_trans (mul-le-mul_right d h) (le_of_eq (mul_assoc A e d))

onto' : (x e A d : ℕ) → x ≤ A * e → x * d ≤ A * (d * e)
onto' x e A d h = le_trans (onto x e A d h) (le_of_eq (ap (λ (z : ℕ). A * z) (mul_comm e d)))

pub add_within : (A B : ℕ) (x y : Float) → A + B ≤ 2 ^ 24 → Within A x → Within B y → Within (A + B) (add binary32 x y)
unfolding add
add_within A B nan y L h k = absurd h
add_within A B (inf s) y L h k = absurd h
add_within A B (fin s m e) nan L h k = absurd k
add_within A B (fin s m e) (inf t) L h k = absurd k
add_within A B (fin s m e) (fin t n d) L h k =
    sum_within s (m * up e * down d) t (n * up d * down e) (down e * down d) A B (mul-pos (down_pos e) (down_pos d)) L (onto (m * up e) (down e) A (down d) h)
    (onto' (n * up d) (down d) B (down e) k)

pub sub_within : (A B : ℕ) (x y : Float) → A + B ≤ 2 ^ 24 → Within A x → Within B y → Within (A + B) (sub binary32 x y)
unfolding sub
sub_within A B x y L h k = add_within A B x (neg y) L h (within_neg B y k)

pub add_upto : (A B : ℕ) (x y : Float) → A + B ≤ 2 ^ 24 → Upto A x → Upto B y → Upto (A + B) (add binary32 x y)
unfolding add
add_upto A B nan y L h k = absurd h
add_upto A B (inf s) y L h k = absurd h
add_upto A B (fin true m e) y L h k = absurd h
add_upto A B (fin false m e) nan L h k = absurd k
add_upto A B (fin false m e) (inf t) L h k = absurd k
add_upto A B (fin false m e) (fin true n d) L h k = absurd k
add_upto A B (fin false m e) (fin false n d) L h k = unfold sum in
    round_upto (A + B) (m * up e * down d + n * up d * down e) (down e * down d) (mul-pos (down_pos e) (down_pos d)) L
    (le_trans (first (m * up e * down d) (n * up d * down e) (A * (down e * down d)) (B * (down e * down d)) (onto (m * up e) (down e) A (down d) h)
    (onto' (n * up d) (down d) B (down e) k))
    (le_of_eq (sym (add-mul A B (down e * down d)))))
