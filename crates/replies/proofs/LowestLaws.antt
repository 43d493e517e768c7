-- Of replies that rise from 1 on the first that applies has the lowest number that applies, as document 01 says it, and nothing else is that. Assumes
-- nothing.
use mathlib.Core.Path.{◌≡◌, refl, sym, ◌∙◌}
use mathlib.Core.Logic.{◌⊎◌, inl, inr}
use mathlib.Core.Bool.{Bool, true, false, cond, true≢false}
use mathlib.Core.List.{List, [], ◌∷◌}
use Prim.Native.Nat.{ℕ, zero, suc, ◌≤◌}
use native.Mathlib.Nat.{le_antisymm}
use native.Mathlib.Omega.{arith}
use lib.Dec.{T, leb, leb→le}
use lib.Ieee.Fits.{and_l, and_r}
use Rattle.replies.specs.Replies.{Reply, first_reply, rising_from, Applies, Lowest}

rising_head : (n : ℕ) (x : Reply) (xs : List Reply) → T (rising_from n (x ∷ xs)) → n ≤ x.number
rising_head n x xs h = leb→le n x.number (and_l (leb n x.number) (rising_from x.number xs) h)

rising_tail : (n : ℕ) (x : Reply) (xs : List Reply) → T (rising_from n (x ∷ xs)) → T (rising_from x.number xs)
rising_tail n x xs h = and_r (leb n x.number) (rising_from x.number xs) h

-- what applies is not below what the numbers rise from
rising_above : (n : ℕ) (xs : List Reply) → T (rising_from n xs) → (m : ℕ) → Applies m xs → n ≤ m
rising_above n [] h m a = absurd a
rising_above n (x ∷ xs) h m (inl a) = omega (arith, rising_head n x xs h, a.1)
rising_above n (x ∷ xs) h m (inr a) = omega (arith, rising_head n x xs h, rising_above x.number xs (rising_tail n x xs h) m a)

below_all : (n : ℕ) (xs : List Reply) → T (rising_from n xs) → (m : ℕ) → Applies m xs → (n ≤ first_reply xs) × (first_reply xs ≤ m)
below_all n [] h m a = absurd a
below_all n (y ∷ ys) h m a = go y.applies refl a (below_all y.number ys (rising_tail n y ys h) m)
  where
    go : (t : Bool) → y.applies ≡ t → ((y.applies ≡ true) × (y.number ≡ m)) ⊎ Applies m ys
        → (Applies m ys → (y.number ≤ first_reply ys) × (first_reply ys ≤ m))
        → (n ≤ cond t y.number (first_reply ys)) × (cond t y.number (first_reply ys) ≤ m)
    go true e (inl s) later = (rising_head n y ys h, omega (arith, s.1))
    go true e (inr j) later = (rising_head n y ys h, omega (arith, rising_above y.number ys (rising_tail n y ys h) m j))
    go false e (inl s) later = absurd (true≢false (sym s.0 ∙ e))
    go false e (inr j) later = (omega (arith, rising_head n y ys h, (later j).0), (later j).1)

one_applies : (xs : List Reply) → (first_reply xs ≡ 0 → ⊥) → Applies (first_reply xs) xs
one_applies [] h = absurd (h refl)
one_applies (y ∷ ys) h = go y.applies refl h (one_applies ys)
  where
    go : (t : Bool) → y.applies ≡ t → (cond t y.number (first_reply ys) ≡ 0 → ⊥) → ((first_reply ys ≡ 0 → ⊥) → Applies (first_reply ys) ys)
        → Applies (cond t y.number (first_reply ys)) (y ∷ ys)
    go true e h later = inl (e, refl)
    go false e h later = inr (later h)

pub lowest_is : (xs : List Reply) → T (rising_from 1 xs) → Lowest xs (first_reply xs)
lowest_is xs h = record { given = one_applies xs; least = below_all 1 xs h }

pub lowest_only : {xs : List Reply} {r q : ℕ} → Lowest xs r → Lowest xs q → r ≡ q
lowest_only {xs} {r} {q} a b = go r q a b
  where
    go : (r q : ℕ) → Lowest xs r → Lowest xs q → r ≡ q
    go zero zero a b = refl
    go zero (suc q) a b = absurd (omega (arith, (a.least (suc q) (b.given (λ e. omega arith))).0))
    go (suc r) zero a b = absurd (omega (arith, (b.least (suc r) (a.given (λ e. omega arith))).0))
    go (suc r) (suc q) a b = le_antisymm (a.least (suc q) (b.given (λ e. omega arith))).1 (b.least (suc r) (a.given (λ e. omega arith))).1
