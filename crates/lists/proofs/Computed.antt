-- What one computed test shows of each place: two functions that give the same list agree at each number below its length, and so a test that passes
-- there passes at each; a test that passes of each element of a list passes at each place. Assumes nothing.
use mathlib.Core.Path.{◌≡◌, sym, ◌∙◌, subst}
use mathlib.Core.Bool.{Bool, true, ◌&&◌}
use mathlib.Core.List.{List, [], ◌∷◌}
use Prim.Native.Nat.{ℕ, zero, suc, ◌+◌, ◌<◌}
use native.Mathlib.Nat.{add-zero, zero-add, add-suc, suc-add, le_of_suc-le-suc, not-suc-le-zero}
use lib.Dec.{T}
use lib.ListN.{get_or}
use lib.Ieee.Fits.{and_l, and_r}

-- f i, f (i + 1), .., n of them
abbrev pub from : {A : Type 0} → (ℕ → A) → ℕ → ℕ → List A
from f i zero = []
from f i (suc n) = f i ∷ from f (suc i) n

agree_from : {A : Type 0} (f g : ℕ → A) (n i : ℕ) → from f i n ≡ from g i n → (k : ℕ) → k < n → f (i + k) ≡ g (i + k)
agree_from f g zero i e k h = absurd (not-suc-le-zero h)
agree_from f g (suc n) i e zero h = rw add-zero (cc)
agree_from f g (suc n) i e (suc k) h =
    let rest : from f (suc i) n ≡ from g (suc i) n = cc in
    subst (λ (m : ℕ). f m ≡ g m) (suc-add i k ∙ sym (add-suc i k)) (agree_from f g n (suc i) rest k (le_of_suc-le-suc h))

pub agree : {A : Type 0} (f g : ℕ → A) (n : ℕ) → from f 0 n ≡ from g 0 n → (k : ℕ) → k < n → f k ≡ g k
agree f g n e k h = subst (λ (m : ℕ). f m ≡ g m) (zero-add k) (agree_from f g n 0 e k h)

-- a test of each number below n
pub each : (test : ℕ → Bool) (n : ℕ) → from test 0 n ≡ from (λ k. true) 0 n → (k : ℕ) → k < n → T (test k)
each test n e k h = rw (agree test (λ k. true) n e k h) tt

-- ---- a test of each element of a list
abbrev pub all : {A : Type 0} → (A → Bool) → List A → Bool
all test [] = true
all test (a ∷ l) = test a && all test l

-- it passes at each place, where it passes of what stands past the end
pub all_at : {A : Type 0} (test : A → Bool) (l : List A) (d : A) → T (test d) → T (all test l) → (i : ℕ) → T (test (get_or l i d))
all_at test [] d p s i = p
all_at test (a ∷ l) d p s zero = and_l (test a) (all test l) s
all_at test (a ∷ l) d p s (suc i) = all_at test l d p (and_r (test a) (all test l) s) i
