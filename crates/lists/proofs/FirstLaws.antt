-- `first_that` is the first that passes, and nothing else is. A loop that looks for it: the invariant `Searching`, from nothing seen
-- (`search_begin`) over one position more (`search_next`) to the answer (`search_found`, `search_missed`). Assumes nothing.
use mathlib.Core.Path.{◌≡◌, refl, sym, subst}
use mathlib.Core.Logic.{inl, inr}
use mathlib.Core.Bool.{Bool, true, false, cond, not}
use Prim.Native.Nat.{ℕ, zero, suc, ◌+◌, ◌≤◌, ◌<◌}
use native.Mathlib.Nat.{eq-or-lt_of_le, le_antisymm, lt_of_not-le, lt_of_lt_of_le, le_of_suc-le-suc, not-suc-le-zero}
use native.Mathlib.Omega.{arith}
use borrow.Author.Count.{below_more}
use lib.Dec.{T, T_not, ltb, ltb→lt, nltb→le}
use Rattle.lists.specs.First.{first_that, First, all_pass}
use Rattle.lists.proofs.Bools.{holds, fails, and_split}

pub first_is : (test : ℕ → Bool) (n : ℕ) → First test n (first_that test n)
unfolding first_that
first_is test zero = record { inside = omega arith; before = λ k h. absurd (not-suc-le-zero h); passes = λ h. absurd (not-suc-le-zero h) }
first_is test (suc n) = go (test zero) refl (first_is (λ k. test (suc k)) n)
  where
    go : {r : ℕ} (t : Bool) → test zero ≡ t → First (λ k. test (suc k)) n r → First test (suc n) (cond t zero (suc r))
    go true e f = record { inside = omega arith; before = λ k h. absurd (not-suc-le-zero h); passes = λ h. holds e }
    go {r} false e f = record { inside = omega arith; before = earlier; passes = λ h. f.passes (le_of_suc-le-suc h) }
      where
        earlier : (k : ℕ) → k < suc r → T (not (test k))
        earlier zero h = fails e
        earlier (suc k) h = f.before k (le_of_suc-le-suc h)

pub first_only : {test : ℕ → Bool} {n r q : ℕ} → First test n r → First test n q → r ≡ q
first_only {test} {n} {r} {q} a b = le_antisymm (no_later b a) (no_later a b)
  where
    no_later : {r q : ℕ} → First test n r → First test n q → q ≤ r
    no_later {r} {q} a b = le_of_suc-le-suc (lt_of_not-le (λ h. T_not (test r) (b.before r h) (a.passes (lt_of_lt_of_le h b.inside))))

-- what passes stands at r or after it
pub first_below : {test : ℕ → Bool} {n r : ℕ} → First test n r → (k : ℕ) → T (test k) → r ≤ k
first_below {test} f k t = le_of_suc-le-suc (lt_of_not-le (λ h. T_not (test k) (f.before k h) t))

-- j is below k or not
pub split_at : {G : Type 0} (j k : ℕ) → (j < k → G) → (k ≤ j → G) → G
split_at {G} j k a b = go (ltb j k) (ltb→lt j k) (nltb→le j k)
  where
    go : (t : Bool) → (T t → j < k) → (T (not t) → k ≤ j) → G
    go true p q = a (p tt)
    go false p q = b (q tt)

-- all that pass, one by one
pub pass_all : (test : ℕ → Bool) (k n : ℕ) → all_pass test k n ≡ true → (j : ℕ) → k ≤ j → j < k + n → T (test j)
unfolding all_pass
pass_all test k zero e j h l = absurd (none h l)
  where
    none : k ≤ j → j < k + 0 → ⊥
    none h l = omega arith
pass_all test k (suc n) e j h l =
    let p = and_split (all_pass test k n) (test (k + n)) e in
    elim (eq-or-lt_of_le (down l)) [ inl q ↦ subst (λ (i : ℕ). T (test i)) (sym q) (holds p.1) | inr m ↦ pass_all test k n p.0 j h m ]
  where
    down : j < k + suc n → j ≤ k + n
    down m = omega arith

-- none of the positions below i passes
pub record Searching (test : ℕ → Bool) (n i : ℕ) : Type 0 where
  pub within : i ≤ n
  pub none : (k : ℕ) → k < i → T (not (test k))

pub search_begin : (test : ℕ → Bool) (n : ℕ) → Searching test n 0
search_begin test n = record { within = omega arith; none = λ k h. absurd (not-suc-le-zero h) }

module _ {test : ℕ → Bool} {n i : ℕ} (s : Searching test n i) where
  pub search_next : i < n → test i ≡ false → Searching test n (i + 1)
  search_next h e = record { within = omega arith; none = below_more (λ (k : ℕ). T (not (test k))) i s.none (fails e) }

  pub search_found : i < n → test i ≡ true → i ≡ first_that test n
  search_found h e = first_only (record { inside = s.within; before = s.none; passes = λ _. holds e }) (first_is test n)

  pub search_missed : n ≤ i → i ≡ first_that test n
  search_missed h = first_only (record { inside = s.within; before = s.none; passes = λ l. absurd (omega arith) }) (first_is test n)
