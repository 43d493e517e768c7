-- Division to the nearest: `nearest d z` is z / d to the nearest whole number, halves toward plus infinity, and there is one alone. It is no
-- larger than what z / d is no larger than; and where d is 10^10 it is a quotient of natural numbers, less an offset.
-- Whole numbers stand here as differences of natural ones, so that each fact is one on sums of natural numbers. Assumes nothing.
use mathlib.Core.Path.{◌≡◌, sym, ap, ◌∙◌, subst}
use mathlib.Core.Bool.{Bool, true, false, not}
use mathlib.Core.Logic.{◌⊎◌, inl, inr, ⊎_elim}
use Prim.Native.Nat.{ℕ, zero, suc, ◌+◌, ◌-◌, ◌*◌, ◌/◌, ◌≤◌, ◌<◌}
use native.Mathlib.Nat.{le_antisymm, add-mul, suc-mul, mul_left_comm, div-mul-le_self, lt-div-mul-add, lt_of_mul-lt-mul_right, not-suc-le-zero}
use native.Mathlib.Omega.{arith}
use lib.Dec.{T, ltb, ltb→lt, nltb→le, leb→le, le→leb, lt→ltb}
use lib.IntN.{ℤ, pos, negsuc, neg_ℤ, nat_abs, ◌+ℤ◌, ◌-ℤ◌, ◌*ℤ◌, +ℤ_idl, +ℤ_idr, neg_ℤ-+ℤ, neg_ℤ-neg_ℤ}
use lib.Signed.{◌≤ℤ◌, ◌<ℤ◌}
use mir.Syntax.{w32}
use mir.Val.{SFits}
use borrow.Author.Tests.{lt-ltb, le-ltb}
use Rattle.floats.proofs.Int.{sums, sub_times}
use Rattle.conversion.specs.Nearest.{floor, nearest, Nearest, RaisedQuotient}

-- ---- differences of natural numbers
difference_up : (a b : ℕ) → b ≤ a → pos a -ℤ pos b ≡ pos (a - b)
difference_up a zero h = ap pos (same a)
  where
    same : (n : ℕ) → n + 0 ≡ n - 0
    same n = omega arith
difference_up a (suc b) h = simp (le-ltb a (suc b) h)

difference_down : (a b : ℕ) → a < b → pos a -ℤ pos b ≡ negsuc (b - suc a)
difference_down a zero h = absurd (not-suc-le-zero h)
difference_down a (suc b) h = simp (lt-ltb a (suc b) h)

either : (a b : ℕ) → (b ≤ a) ⊎ (a < b)
either a b = go (ltb a b) (ltb→lt a b) (nltb→le a b)
  where
    go : (t : Bool) → (T t → a < b) → (T (not t) → b ≤ a) → (b ≤ a) ⊎ (a < b)
    go true f g = inr (f tt)
    go false f g = inl (g tt)

-- -d is at most a - b
low_of : (d a b : ℕ) → b ≤ a + d → neg_ℤ (pos d) ≤ℤ (pos a -ℤ pos b)
low_of d a b h = elim (either a b) [
  | inl p ↦ subst (λ (z : ℤ). neg_ℤ (pos d) ≤ℤ z) (sym (difference_up a b p)) (plus d)
  | inr p ↦ subst (λ (z : ℤ). neg_ℤ (pos d) ≤ℤ z) (sym (difference_down a b p)) (minus d h p)
]
  where
    plus : (d : ℕ) → neg_ℤ (pos d) ≤ℤ pos (a - b)
    plus zero = record { le = le→leb 0 (a - b) (omega arith) }
    plus (suc d) = record { le = tt }

    minus : (d : ℕ) → b ≤ a + d → a < b → neg_ℤ (pos d) ≤ℤ negsuc (b - suc a)
    minus zero h p = absurd (no h p)
      where
        no : b ≤ a + 0 → a < b → ⊥
        no h p = omega arith
    minus (suc d) h p = record { le = le→leb (b - suc a) d (omega arith) }

of_low : (d a b : ℕ) → neg_ℤ (pos d) ≤ℤ (pos a -ℤ pos b) → b ≤ a + d
of_low d a b h = elim (either a b) [
  | inl p ↦ omega arith
  | inr p ↦ minus d p (subst (λ (z : ℤ). neg_ℤ (pos d) ≤ℤ z) (difference_down a b p) h)
]
  where
    minus : (d : ℕ) → a < b → neg_ℤ (pos d) ≤ℤ negsuc (b - suc a) → b ≤ a + d
    minus zero p h = absurd h.le
    minus (suc d) p h = omega (arith, leb→le (b - suc a) d h.le)

-- a - b is below d
high_of : (d a b : ℕ) → a < b + d → (pos a -ℤ pos b) <ℤ pos d
high_of d a b h = elim (either a b) [
  | inl p ↦ subst (λ (z : ℤ). z <ℤ pos d) (sym (difference_up a b p)) (record { lt = lt→ltb (a - b) d (omega arith) })
  | inr p ↦ subst (λ (z : ℤ). z <ℤ pos d) (sym (difference_down a b p)) (record { lt = tt })
]

of_high : (d a b : ℕ) → (pos a -ℤ pos b) <ℤ pos d → a < b + d
of_high d a b h = elim (either a b) [
  | inl p ↦ let k = ltb→lt (a - b) d (subst (λ (z : ℤ). z <ℤ pos d) (difference_up a b p) h).lt in omega arith
  | inr p ↦ omega arith
]

-- each whole number is such a difference
plus : ℤ → ℕ
plus (pos n) = n
plus (negsuc n) = 0

minus : ℤ → ℕ
minus (pos n) = 0
minus (negsuc n) = suc n

parts : (z : ℤ) → z ≡ pos (plus z) -ℤ pos (minus z)
unfolding plus minus
parts (pos n) = sym (+ℤ_idr (pos n))
parts (negsuc n) = sym (+ℤ_idl (negsuc n))

-- two differences are equal where the crossed sums are
same_difference : (a b c e : ℕ) → a + e ≡ c + b → pos a -ℤ pos b ≡ pos c -ℤ pos e
same_difference a b c e h = elim (either a b) [
  | inl p ↦ difference_up a b p ∙ ap pos (up p) ∙ sym (difference_up c e (over p))
  | inr p ↦ difference_down a b p ∙ ap negsuc (down p) ∙ sym (difference_down c e (under p))
]
  where
    up : b ≤ a → a - b ≡ c - e
    up p = omega arith

    over : b ≤ a → e ≤ c
    over p = omega arith

    down : a < b → b - suc a ≡ e - suc c
    down p = omega arith

    under : a < b → c < e
    under p = omega arith

-- ---- `Nearest` of differences, as facts on natural numbers
crossed : (a b c e : ℤ) → a -ℤ b -ℤ (c -ℤ e) ≡ a +ℤ e -ℤ (b +ℤ c)
crossed a b c e = simp (neg_ℤ-+ℤ, neg_ℤ-neg_ℤ, sums)

spread : (d p n u v : ℕ) → (pos p -ℤ pos n) *ℤ pos 2 -ℤ (pos u -ℤ pos v) *ℤ pos (2 * d) ≡ pos (p * 2 + v * (2 * d)) -ℤ pos (n * 2 + u * (2 * d))
spread d p n u v =
    rw (sub_times (pos p) (pos n) 2, sub_times (pos u) (pos v) (2 * d)) (crossed (pos (p * 2)) (pos (n * 2)) (pos (u * (2 * d))) (pos (v * (2 * d))))

nearest_of_lem : (d p n u v : ℕ) → n * 2 + u * (2 * d) ≤ p * 2 + v * (2 * d) + d → p * 2 + v * (2 * d) < n * 2 + u * (2 * d) + d
    → Nearest d (pos p -ℤ pos n) (pos u -ℤ pos v)
nearest_of_lem d p n u v h k = record {
  low = subst (λ (w : ℤ). neg_ℤ (pos d) ≤ℤ w) (sym (spread d p n u v)) (low_of d (p * 2 + v * (2 * d)) (n * 2 + u * (2 * d)) h);
  high = subst (λ (w : ℤ). w <ℤ pos d) (sym (spread d p n u v)) (high_of d (p * 2 + v * (2 * d)) (n * 2 + u * (2 * d)) k);
}

of_nearest : (d p n u v : ℕ) → Nearest d (pos p -ℤ pos n) (pos u -ℤ pos v)
    → (n * 2 + u * (2 * d) ≤ p * 2 + v * (2 * d) + d) × (p * 2 + v * (2 * d) < n * 2 + u * (2 * d) + d)
of_nearest d p n u v h = (
  of_low d (p * 2 + v * (2 * d)) (n * 2 + u * (2 * d)) (subst (λ (w : ℤ). neg_ℤ (pos d) ≤ℤ w) (spread d p n u v) h.low),
  of_high d (p * 2 + v * (2 * d)) (n * 2 + u * (2 * d)) (subst (λ (w : ℤ). w <ℤ pos d) (spread d p n u v) h.high),
)

-- ---- one nearest number alone
crossed_le : (d p n u v x y : ℕ) → n * 2 + u * (2 * d) ≤ p * 2 + v * (2 * d) + d → p * 2 + y * (2 * d) < n * 2 + x * (2 * d) + d → u + y ≤ x + v
crossed_le d p n u v x y h k =
    let e = add-mul u y (2 * d) in
    let f = add-mul x v (2 * d) in
    let g = add-mul (x + v) 1 (2 * d) in
    let l = lt_of_mul-lt-mul_right (2 * d) {m = u + y} {n = x + v + 1} (omega arith) in
    omega arith

pub only_one : (d : ℕ) (z q r : ℤ) → Nearest d z q → Nearest d z r → q ≡ r
only_one d z q r Q R =
    let p = plus z in
    let n = minus z in
    let u = plus q in
    let v = minus q in
    let x = plus r in
    let y = minus r in
    let A = of_nearest d p n u v (rw (← parts z, ← parts q) Q) in
    let B = of_nearest d p n x y (rw (← parts z, ← parts r) R) in
    parts q ∙ same_difference u v x y (le_antisymm (crossed_le d p n u v x y A.0 B.1) (crossed_le d p n x y u v B.0 A.1)) ∙ sym (parts r)

-- ---- `nearest` is the nearest
module _ (d p n : ℕ) (D : 0 < d) where
  raised : (pos p -ℤ pos n) *ℤ pos 2 +ℤ pos d ≡ pos (p * 2 + d) -ℤ pos (n * 2)
  raised = rw (sub_times (pos p) (pos n) 2) (moved (pos (p * 2)) (pos (n * 2)) (pos d))
    where
      moved : (a b c : ℤ) → a -ℤ b +ℤ c ≡ a +ℤ c -ℤ b
      moved a b c = simp sums

  M : 0 < 2 * d
  M = omega arith

  nearest_up : n * 2 ≤ p * 2 + d → Nearest d (pos p -ℤ pos n) (nearest d (pos p -ℤ pos n))
  unfolding nearest plus minus
  nearest_up h =
      let k = p * 2 + d - n * 2 in
      let q = k / (2 * d) in
      let A = div-mul-le_self k (2 * d) in
      let B = lt-div-mul-add {a = k} M in
      subst (λ (y : ℤ). Nearest d (pos p -ℤ pos n) y) (sym (ap (λ (y : ℤ). floor y (2 * d)) (raised ∙ difference_up (p * 2 + d) (n * 2) h) ∙ parts (pos q)))
      (nearest_of_lem d p n q 0 (omega arith) (omega arith))

  nearest_down : p * 2 + d < n * 2 → Nearest d (pos p -ℤ pos n) (nearest d (pos p -ℤ pos n))
  unfolding nearest plus minus
  nearest_down h =
      let k = n * 2 - suc (p * 2 + d) in
      let q = k / (2 * d) in
      let A = div-mul-le_self k (2 * d) in
      let B = lt-div-mul-add {a = k} M in
      let C = suc-mul q (2 * d) in
      subst (λ (y : ℤ). Nearest d (pos p -ℤ pos n) y)
      (sym (ap (λ (y : ℤ). floor y (2 * d)) (raised ∙ difference_down (p * 2 + d) (n * 2) h) ∙ parts (negsuc q)))
      (nearest_of_lem d p n 0 (suc q) (omega arith) (omega arith))

pub nearest_is : (d : ℕ) (z : ℤ) → 0 < d → Nearest d z (nearest d z)
nearest_is d z D =
    let p = plus z in
    let n = minus z in
    rw (parts z) (⊎_elim (nearest_up d p n D) (nearest_down d p n D) (either (p * 2 + d) (n * 2)))

-- ---- how large: what is from -K d to K d gives what is from -K to K
within : (K : ℕ) (q : ℤ) → plus q + 0 ≤ K + minus q → 0 + minus q ≤ plus q + K → nat_abs q ≤ K
unfolding plus minus
within K (pos u) h k = omega arith
within K (negsuc w) h k = omega arith

pub nearest_size : (d K p n : ℕ) → 0 < d → p ≤ n + K * d → n ≤ p + K * d → nat_abs (nearest d (pos p -ℤ pos n)) ≤ K
nearest_size d K p n D h k = sized (nearest d (pos p -ℤ pos n)) (nearest_is d (pos p -ℤ pos n) D)
  where
    sized : (q : ℤ) → Nearest d (pos p -ℤ pos n) q → nat_abs q ≤ K
    sized q N =
        let u = plus q in
        let v = minus q in
        let A = of_nearest d p n u v (rw (← parts q) N) in
        let E = mul_left_comm K 2 d in
        within K q (crossed_le d p n u v K 0 A.0 (omega arith)) (crossed_le d p n 0 K u v (omega arith) A.1)

-- ---- by 10^10, with 3 * 10^6 more: what p - n + 3 * 10^16 is to be, from q - 1/2 to below q + 1/2 times 10^10
pub by_offset : (p n q : ℕ)
    → q ≤ 6000000
    → n * 2 + q * 20000000000 ≤ p * 2 + 60000010000000000
    → p * 2 + 60000000000000000 < n * 2 + q * 20000000000 + 10000000000
    → RaisedQuotient p n q
by_offset p n q s h k = record {
  small = s;
  is =
      only_one 10000000000 (pos p -ℤ pos n) _ _
      (nearest_of_lem 10000000000 p n q 3000000 (omega arith) (omega arith))
      (nearest_is 10000000000 (pos p -ℤ pos n) (omega arith));
}

-- ---- a quotient with its offset, or without it, fits an `i32`
pub fits_i32 : (z : ℤ) → nat_abs z ≤ 6000000 → SFits w32 z
fits_i32 (pos n) h = record { sfits = omega arith }
fits_i32 (negsuc n) h = record { sfits = omega arith }
