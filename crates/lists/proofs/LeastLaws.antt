-- `least_of` is the first of the least, and nothing else is; a step of it, and many at once. The steps hold of any comparison, and that no earlier value is
-- the same holds of any that is irreflexive and transitive (`no_earlier`). Assumes nothing.
use mathlib.Core.Path.{◌≡◌, refl, sym, ◌∙◌, ap, subst}
use mathlib.Core.Logic.{inl, inr, ⊎_elim}
use mathlib.Core.Bool.{Bool, true, false, cond, not}
use Prim.Native.Nat.{ℕ, zero, suc, ◌+◌, ◌≤◌, ◌<◌}
use native.Mathlib.Nat.{le_antisymm, lt_of_not-le, eq-or-lt_of_le, le_of_suc-le-suc, not-suc-le-zero}
use native.Mathlib.Numerals.{add-one}
use native.Mathlib.Omega.{arith}
use borrow.Author.Count.{below_more}
use lib.Dec.{T, T_not, not_T}
use Rattle.lists.specs.Least.{least_of, Least, Comparison}
use Rattle.lists.proofs.Bools.{holds, fails, contra}

one_of : {n r : ℕ} (t : Bool) → r ≤ n → cond t n r ≤ n
one_of true h = omega arith
one_of false h = h

-- ---- the steps
module _ {A : Type 0} (less : A → A → Bool) (d : ℕ → A) where
  pub least_step : (i : ℕ) → least_of less d (i + 1) ≡ cond (less (d i) (d (least_of less d i))) i (least_of less d i)
  unfolding least_of
  least_step i = rw add-one

  at_most : (n : ℕ) → least_of less d n ≤ n
  unfolding least_of
  at_most zero = omega arith
  at_most (suc n) = omega (arith, one_of (less (d n) (d (least_of less d n))) (at_most n))

  pub least_inside : (n : ℕ) → 0 < n → least_of less d n < n
  unfolding least_of
  least_inside zero h = absurd (not-suc-le-zero h)
  least_inside (suc n) h = omega (arith, one_of (less (d n) (d (least_of less d n))) (at_most n))

  pub least_one : least_of less d 1 ≡ 0
  least_one = omega (arith, least_inside 1 (omega arith))

  -- the positions from i to before j are not less than the best of the first i
  pub least_past : (i j best : ℕ) → best ≡ least_of less d i → i ≤ j → ((k : ℕ) → i ≤ k → k < j → less (d k) (d best) ≡ false) → best ≡ least_of less d j
  unfolding least_of
  least_past i zero best e h none = let z : i ≡ zero = omega arith in e ∙ ap (least_of less d) z
  least_past i (suc j) best e h none =
      ⊎_elim (λ (s : i ≡ suc j). e ∙ ap (least_of less d) s)
      (λ (l : i < suc j).
      let here : best ≡ least_of less d j = least_past i j best e (le_of_suc-le-suc l) (λ k a b. none k a (omega arith)) in
      here ∙ sym (rw (← here, none j (le_of_suc-le-suc l) (omega arith))))
      (eq-or-lt_of_le h)

-- values that agree below n have the same least
pub least_same : {A : Type 0} (less : A → A → Bool) (d e : ℕ → A) (n : ℕ) → ((k : ℕ) → k < n → d k ≡ e k) → least_of less d n ≡ least_of less e n
unfolding least_of
least_same less d e zero h = refl
least_same less d e (suc n) h =
    let same : least_of less d n ≡ least_of less e n = least_same less d e n (λ k l. h k (omega arith)) in
    let there : d (least_of less d n) ≡ e (least_of less e n) = h (least_of less d n) (omega (arith, at_most less d n)) ∙ ap e same in
    λ i. cond (less (h n (omega arith) i) (there i)) n (same i)

-- ---- by a comparison that is irreflexive and transitive, as `<` is on all floats: no value is less, and no earlier one is the same
module _ {A : Type 0} (less : A → A → Bool) (irreflexive : (x : A) → T (less x x) → ⊥)
    (transitive : (x y z : A) → T (less x y) → T (less y z) → T (less x z)) (d : ℕ → A) where
  none_less : (n k : ℕ) → k < n → T (less (d k) (d (least_of less d n))) → ⊥
  unfolding least_of
  none_less zero k h = absurd (not-suc-le-zero h)
  none_less (suc n) k h = go (less (d n) (d r)) refl (none_less n k)
    where
      r : ℕ
      r = least_of less d n

      go : (t : Bool) → less (d n) (d r) ≡ t → (k < n → T (less (d k) (d r)) → ⊥) → T (less (d k) (d (cond t n r))) → ⊥
      go true e before s = elim (eq-or-lt_of_le (le_of_suc-le-suc h)) [
        | inl q ↦ irreflexive (d n) (subst (λ (j : ℕ). T (less (d j) (d n))) q s)
        | inr l ↦ before l (transitive (d k) (d n) (d r) s (holds e))
      ]
      go false e before s = elim (eq-or-lt_of_le (le_of_suc-le-suc h)) [
        | inl q ↦ T_not (less (d n) (d r)) (fails e) (subst (λ (j : ℕ). T (less (d j) (d r))) q s)
        | inr l ↦ before l s
      ]

  pub no_earlier : (n k : ℕ) → k < least_of less d n → d k ≡ d (least_of less d n) → ⊥
  unfolding least_of
  no_earlier zero k = λ h. absurd (not-suc-le-zero h)
  no_earlier (suc n) k = go (less (d n) (d r)) refl (no_earlier n k)
    where
      r : ℕ
      r = least_of less d n

      go : (t : Bool) → less (d n) (d r) ≡ t → (k < r → d k ≡ d r → ⊥) → k < cond t n r → d k ≡ d (cond t n r) → ⊥
      go true q before h e = none_less n k h (subst (λ (x : A). T (less x (d r))) (sym e) (holds q))
      go false q before h e = before h e

-- ---- what it is
module _ {A : Type 0} {less : A → A → Bool} {P : A → Type 0} (C : Comparison less P) where
  irreflexive : (x : A) → P x → T (not (less x x))
  irreflexive x p = not_T (less x x) (λ t. T_not (less x x) (C.asymmetric x x p p t) t)

  -- x is less than y, and y at most z
  less_then : (x y z : A) → P x → P y → P z → T (less x y) → T (not (less z y)) → T (less x z)
  less_then x y z p q r h k = contra (less x y) (less x z) (λ n. C.transitive y z x q r p k n) h

module _ {A : Type 0} {less : A → A → Bool} {d : ℕ → A} where
  pub least_only : {n r q : ℕ} → Least less d n r → Least less d n q → r ≡ q
  least_only {n} a b = le_antisymm (no_later b a) (no_later a b)
    where
      no_later : {r q : ℕ} → Least less d n r → Least less d n q → q ≤ r
      no_later {r} {q} a b = le_of_suc-le-suc (lt_of_not-le (λ h. T_not (less (d q) (d r)) (a.least q b.inside) (b.first r h)))

  module _ {P : A → Type 0} (C : Comparison less P) where
    alone : P (d 0) → Least less d 1 (least_of less d 1)
    alone p = rw (least_one less d) (record {
      inside = omega arith;
      least = below_more (λ (k : ℕ). T (not (less (d k) (d 0)))) 0 (λ k h. absurd (not-suc-le-zero h)) (irreflexive C (d 0) p);
      first = λ k h. absurd (not-suc-le-zero h);
    })

    some_least : (n : ℕ) → ((k : ℕ) → k < suc n → P (d k)) → Least less d (suc n) (least_of less d (suc n))
    unfolding least_of
    some_least zero known = alone (known 0 (omega arith))
    some_least (suc n) known = go (less (d (suc n)) (d r)) refl (some_least n (λ k h. known k (omega arith)))
      where
        r : ℕ
        r = least_of less d (suc n)

        go : (t : Bool) → less (d (suc n)) (d r) ≡ t → Least less d (suc n) r → Least less d (suc (suc n)) (cond t (suc n) r)
        go true e f =
            let i = suc n in
            let here : P (d i) = known i (omega arith) in
            let best : P (d r) = known r (omega (arith, f.inside)) in
            record {
              inside = omega arith;
              least = λ k h. below_more (λ (k : ℕ). T (not (less (d k) (d i)))) i
                  (λ k l. C.transitive (d i) (d r) (d k) here best (known k (omega arith)) (C.asymmetric (d i) (d r) here best (holds e)) (f.least k l))
                  (irreflexive C (d i) here)
                  k
                  (omega arith);
              first = λ k l. less_then C (d i) (d r) (d k) here best (known k (omega arith)) (holds e) (f.least k l);
            }
        go false e f = record {
          inside = omega (arith, f.inside);
          least = λ k h. below_more (λ (k : ℕ). T (not (less (d k) (d r)))) (suc n) f.least (fails e) k (omega arith);
          first = f.first;
        }

    pub least_is : (n : ℕ) → 0 < n → ((k : ℕ) → k < n → P (d k)) → Least less d n (least_of less d n)
    least_is zero h known = absurd (not-suc-le-zero h)
    least_is (suc n) h known = some_least n known
