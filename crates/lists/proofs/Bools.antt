-- Tests that are joined, and tests as facts: `T t` from `t ≡ true`, `T (not t)` from `t ≡ false`, and back. Assumes nothing.
use mathlib.Core.Path.{◌≡◌, refl, sym, ◌∙◌, subst}
use mathlib.Core.Bool.{Bool, true, false, not, ◌&&◌, ◌||◌, true≢false}
use Prim.Native.Nat.{ℕ}
use borrow.Author.Tests.{eqb-true, not-false}
use lib.Dec.{T, eqb}

pub clash : {t : Bool} → t ≡ true → t ≡ false → ⊥
clash p q = true≢false (sym p ∙ q)

-- Kept: of the library's `T_from_true` and `T_from_false` each names the test, which is read off the equation here.
pub holds : {t : Bool} → t ≡ true → T t
holds e = subst T (sym e) tt

pub fails : {t : Bool} → t ≡ false → T (not t)
fails e = subst (λ (t : Bool). T (not t)) (sym e) tt

pub is_true : (t : Bool) → T t → t ≡ true
is_true true h = refl
is_true false h = absurd h

pub is_false : (t : Bool) → T (not t) → t ≡ false
is_false true h = absurd h
is_false false h = refl

pub and_split : (s t : Bool) → s && t ≡ true → (s ≡ true) × (t ≡ true)
and_split true t e = (refl, e)
and_split false t e = absurd (clash e refl)

pub or_split : (s t : Bool) → s || t ≡ false → (s ≡ false) × (t ≡ false)
or_split true t e = absurd (clash refl e)
or_split false t e = (refl, e)

-- numbers that do not differ
pub equals : (m n : ℕ) → not (eqb m n) ≡ false → m ≡ n
equals m n e = eqb-true m n (not-false (eqb m n) e)

-- t cannot fail where s holds
pub contra : (s t : Bool) → (T (not t) → T (not s)) → T s → T t
contra true true h e = tt
contra true false h e = h tt
contra false t h e = absurd e
