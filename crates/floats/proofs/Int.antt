-- Laws of whole numbers: sums in any order, products with a natural number, and how large each is. Assumes nothing.
use mathlib.Core.Path.{◌≡◌, refl, sym, ap, ◌∙◌}
use mathlib.Core.Bool.{Bool, true, false, cond}
use Prim.Native.Nat.{ℕ, zero, suc, ◌+◌, ◌-◌, ◌*◌, ◌≤◌}
use native.Mathlib.Nat.{add-zero, add-suc, le_refl, le_trans, le_of_eq, mul-le-mul}
use native.Mathlib.Omega.{arith}
use lib.Dec.{ltb}
use lib.IntN.{ℤ, pos, negsuc, neg_ℤ, nat_abs, sub_ℕ, ◌+ℤ◌, ◌-ℤ◌, ◌*ℤ◌, +ℤ_idr, +ℤ_assoc, +ℤ_comm, +ℤ-neg_ℤ_cancel, neg_ℤ-+ℤ, *ℤ_comm, *ℤ-zero, suc_ℤ-*ℤ}

pub +ℤ-left-comm : (a b c : ℤ) → a +ℤ (b +ℤ c) ≡ b +ℤ (a +ℤ c)
+ℤ-left-comm a b c = sym (+ℤ_assoc a b c) ∙ ap (λ (x : ℤ). x +ℤ c) (+ℤ_comm a b) ∙ +ℤ_assoc b a c

-- sorts the summands
pub ruleset sums = (+ℤ_assoc, +ℤ_comm, +ℤ-left-comm)

pub cancel : (a b c : ℤ) → a +ℤ c ≡ b +ℤ c → a ≡ b
cancel a b c h = sym (+ℤ-neg_ℤ_cancel a c) ∙ ap (λ (x : ℤ). x -ℤ c) h ∙ +ℤ-neg_ℤ_cancel b c

-- one more in the second factor
pub times_suc : (r : ℤ) (n : ℕ) → r *ℤ pos (suc n) ≡ r *ℤ pos n +ℤ r
times_suc r n = *ℤ_comm r (pos (suc n)) ∙ suc_ℤ-*ℤ (pos n) r ∙ ap (λ (x : ℤ). x +ℤ r) (*ℤ_comm (pos n) r)

pub times_add : (r : ℤ) (m n : ℕ) → r *ℤ pos (m + n) ≡ r *ℤ pos m +ℤ r *ℤ pos n
times_add r m zero = simp (add-zero, *ℤ-zero, +ℤ_idr)
times_add r m (suc n) = simp (add-suc, times_suc, times_add r m n, +ℤ_assoc)

pub add_times : (a b : ℤ) (n : ℕ) → (a +ℤ b) *ℤ pos n ≡ a *ℤ pos n +ℤ b *ℤ pos n
add_times a b zero = simp (*ℤ-zero, +ℤ_idr)
add_times a b (suc n) = simp (times_suc, add_times a b n, sums)

pub neg_times : (a : ℤ) (n : ℕ) → neg_ℤ a *ℤ pos n ≡ neg_ℤ (a *ℤ pos n)
neg_times a zero = simp *ℤ-zero
neg_times a (suc n) = simp (times_suc, neg_times a n, neg_ℤ-+ℤ)

pub sub_times : (a b : ℤ) (n : ℕ) → (a -ℤ b) *ℤ pos n ≡ a *ℤ pos n -ℤ b *ℤ pos n
sub_times a b n = add_times a (neg_ℤ b) n ∙ ap (λ (x : ℤ). a *ℤ pos n +ℤ x) (neg_times b n)

-- ---- how large
difference_size : (a b : ℕ) → nat_abs (sub_ℕ a (suc b)) ≤ a + suc b
difference_size a b = go (ltb a (suc b))
  where
    go : (t : Bool) → nat_abs (cond t (negsuc (suc b - suc a)) (pos (a - suc b))) ≤ a + suc b
    go true = omega arith
    go false = omega arith

pub sum_size : (x y : ℤ) → nat_abs (x +ℤ y) ≤ nat_abs x + nat_abs y
sum_size (pos a) (pos b) = le_refl (a + b)
sum_size (pos a) (negsuc b) = difference_size a b
sum_size (negsuc a) (pos b) = omega (arith, difference_size b a)
sum_size (negsuc a) (negsuc b) = omega arith

pub sum_bound : (a b : ℤ) (A B : ℕ) → nat_abs a ≤ A → nat_abs b ≤ B → nat_abs (a +ℤ b) ≤ A + B
sum_bound a b A B h k = omega (arith, sum_size a b)

pub neg_size : (m : ℕ) → nat_abs (neg_ℤ (pos m)) ≡ m
neg_size zero = refl
neg_size (suc m) = refl

pub product_size : (a b : ℤ) → nat_abs (a *ℤ b) ≡ nat_abs a * nat_abs b
product_size (pos x) (pos y) = refl
product_size (pos x) (negsuc y) = neg_size (x * suc y)
product_size (negsuc x) (pos y) = neg_size (suc x * y)
product_size (negsuc x) (negsuc y) = refl

pub product_bound : (a b : ℤ) (A B : ℕ) → nat_abs a ≤ A → nat_abs b ≤ B → nat_abs (a *ℤ b) ≤ A * B
product_bound a b A B h k = le_trans (le_of_eq (product_size a b)) (mul-le-mul h k)

-- the difference of two numbers that are at most m
pub difference_bound : (a b m : ℕ) → a ≤ m → b ≤ m → nat_abs (pos a -ℤ pos b) ≤ m
difference_bound a zero m p q = omega arith
difference_bound a (suc b) m p q = go (ltb a (suc b))
  where
    go : (t : Bool) → nat_abs (cond t (negsuc (suc b - suc a)) (pos (a - suc b))) ≤ m
    go true = omega arith
    go false = omega arith
