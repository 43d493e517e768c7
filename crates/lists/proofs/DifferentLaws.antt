-- `differing` is the list of the different values, each once (`different_is`); such lists are equally long (`different_long`), and at least k
-- long exactly if k different values occur (`many_if`, `many_only`). Positions that do not pass leave it as it is, and it never gets shorter.
-- Over any test for equality. Assumes nothing.
use mathlib.Core.Path.{◌≡◌, refl, sym, ap, ◌∙◌, subst}
use mathlib.Core.Logic.{◌⊎◌, inl, inr}
use mathlib.Core.Bool.{Bool, true, false, cond, not}
use mathlib.Core.List.{List, [], ◌∷◌, ◌++◌}
use Prim.Native.Nat.{ℕ, zero, suc, ◌+◌, ◌-◌, ◌≤◌, ◌<◌}
use native.Mathlib.Nat.{le_antisymm, le_trans, eq-or-lt_of_le, le_of_suc-le-suc, not-suc-le-zero, add-zero, add-suc}
use native.Mathlib.Numerals.{add-one}
use native.Mathlib.Omega.{arith}
use lib.Dec.{T, T_not}
use lib.ListN.{length, take, length-append}
use lib.Seq.{length-take-le}
use Rattle.lists.specs.Order.{In}
use Rattle.lists.proofs.Bools.{clash, holds, fails}
use Rattle.lists.proofs.OrderLaws.{all_in, all_of, ordered_once}
use Rattle.lists.specs.Different.{has, add_new, Once, differing, Occurs, Different, Many}

module _ {A : Type 0} where
  -- ---- members of a list with one more behind
  in_snoc : (u v : A) (xs : List A) → In u (xs ++ (v ∷ [])) → In u xs ⊎ (u ≡ v)
  in_snoc u v [] (inl e) = inr e
  in_snoc u v [] (inr i) = absurd i
  in_snoc u v (x ∷ xs) (inl e) = inl (inl e)
  in_snoc u v (x ∷ xs) (inr i) = elim (in_snoc u v xs i) [ inl j ↦ inl (inr j) | inr e ↦ inr e ]

  snoc_in : (u v : A) (xs : List A) → In u xs ⊎ (u ≡ v) → In u (xs ++ (v ∷ []))
  snoc_in u v [] (inl i) = absurd i
  snoc_in u v [] (inr e) = inl e
  snoc_in u v (x ∷ xs) (inl (inl e)) = inl e
  snoc_in u v (x ∷ xs) (inl (inr i)) = inr (snoc_in u v xs (inl i))
  snoc_in u v (x ∷ xs) (inr e) = inr (snoc_in u v xs (inr e))

  in_take : (u : A) (n : ℕ) (xs : List A) → In u (take n xs) → In u xs
  in_take u zero xs i = absurd i
  in_take u (suc n) [] i = i
  in_take u (suc n) (x ∷ xs) (inl e) = inl e
  in_take u (suc n) (x ∷ xs) (inr i) = inr (in_take u n xs i)

  -- ys with one x left out
  without : (x : A) (ys : List A) → In x ys → (zs : List A) × (length ys ≡ suc (length zs)) × ((y : A) → In y ys → (y ≡ x) ⊎ In y zs)
  without x [] i = absurd i
  without x (y ∷ ys) (inl e) = (ys, refl, λ u i. elim i [ inl p ↦ inl (p ∙ sym e) | inr j ↦ inr j ])
  without x (y ∷ ys) (inr i) =
      let r = without x ys i in
      (y ∷ r.0, ap suc r.1, λ u j. elim j [ inl p ↦ inr (inl p) | inr k ↦ elim (r.2 u k) [ inl p ↦ inl p | inr q ↦ inr (inr q) ] ])

  -- a test for equality
  pub record Equality (same : A → A → Bool) : Type 0 where
    pub equal : (x y : A) → same x y ≡ true → x ≡ y
    pub self : (x : A) → same x x ≡ true

  module _ (same : A → A → Bool) where
    add_longer : (v : A) (xs : List A) → length xs ≤ length (add_new same v xs)
    unfolding add_new
    add_longer v xs = go (has same v xs)
      where
        go : (t : Bool) → length xs ≤ length (cond t xs (xs ++ (v ∷ [])))
        go true = omega arith
        go false = omega (arith, length-append xs (v ∷ []))

    module _ (passes : ℕ → Bool) (value : ℕ → A) where
      -- it depends on nothing but the first n positions
      pub differing_same : (passes' : ℕ → Bool) (value' : ℕ → A) (n : ℕ) → ((i : ℕ) → i < n → passes i ≡ passes' i) → ((i : ℕ) → i < n → value i ≡ value' i)
          → differing same passes value n ≡ differing same passes' value' n
      unfolding differing
      differing_same passes' value' zero p v = refl
      differing_same passes' value' (suc n) p v =
          rw (p n (omega arith), v n (omega arith), differing_same passes' value' n (λ i h. p i (omega arith)) (λ i h. v i (omega arith)))

      -- one position more
      pub differing_more : (n : ℕ)
          → differing same passes value (n + 1) ≡ cond (passes n) (add_new same (value n) (differing same passes value n)) (differing same passes value n)
      unfolding differing
      differing_more n = ap (differing same passes value) (add-one n)

      -- positions that do not pass
      skip : (m d : ℕ) → ((i : ℕ) → m ≤ i → i < m + d → passes i ≡ false) → differing same passes value (m + d) ≡ differing same passes value m
      unfolding differing
      skip m zero h = ap (differing same passes value) (add-zero m)
      skip m (suc d) h =
          ap (differing same passes value) (add-suc m d)
          ∙ ap (λ (t : Bool). cond t (add_new same (value (m + d)) (differing same passes value (m + d))) (differing same passes value (m + d)))
          (h (m + d) (omega arith) (omega arith))
          ∙ skip m d (λ i l g. h i l (omega arith))

      grows : (m d : ℕ) → length (differing same passes value m) ≤ length (differing same passes value (m + d))
      unfolding differing
      grows m zero = omega (arith, ap (λ (n : ℕ). length (differing same passes value n)) (add-zero m))
      grows m (suc d) =
          le_trans (grows m d)
          (subst (λ (n : ℕ). length (differing same passes value (m + d)) ≤ length (differing same passes value n)) (sym (add-suc m d)) (go (passes (m + d))))
        where
          go : (t : Bool)
              → length (differing same passes value (m + d))
              ≤ length (cond t (add_new same (value (m + d)) (differing same passes value (m + d))) (differing same passes value (m + d)))
          go true = add_longer (value (m + d)) (differing same passes value (m + d))
          go false = omega arith

      module _ {m n : ℕ} (h : m ≤ n) where
        there : m + (n - m) ≡ n
        there = omega arith

        pub differing_skip : ((i : ℕ) → m ≤ i → i < n → passes i ≡ false) → differing same passes value n ≡ differing same passes value m
        differing_skip f = ap (differing same passes value) (sym there) ∙ skip m (n - m) (λ i l g. f i l (omega arith))

        pub differing_grows : length (differing same passes value m) ≤ length (differing same passes value n)
        differing_grows = subst (λ (k : ℕ). length (differing same passes value m) ≤ length (differing same passes value k)) there (grows m (n - m))

  module _ {same : A → A → Bool} (eq : Equality same) where
    -- ---- `has` is membership
    has_in : (v : A) (xs : List A) → has same v xs ≡ true → In v xs
    unfolding has
    has_in v [] e = absurd (clash e refl)
    has_in v (x ∷ xs) e = go (same x v) refl e (has_in v xs)
      where
        go : (t : Bool) → same x v ≡ t → cond t true (has same v xs) ≡ true → (has same v xs ≡ true → In v xs) → (v ≡ x) ⊎ In v xs
        go true s e r = inl (sym (eq.equal x v s))
        go false s e r = inr (r e)

    has_not : (v : A) (xs : List A) → has same v xs ≡ false → (x : A) → In x xs → T (not (same x v))
    unfolding has
    has_not v [] e x i = absurd i
    has_not v (y ∷ xs) e x i = go (same y v) refl e i (λ f. has_not v xs f x)
      where
        go : (t : Bool) → same y v ≡ t → cond t true (has same v xs) ≡ false → (x ≡ y) ⊎ In x xs → (has same v xs ≡ false → In x xs → T (not (same x v)))
            → T (not (same x v))
        go true s e i r = absurd (clash refl e)
        go false s e (inl p) r = subst (λ (u : A). T (not (same u v))) (sym p) (fails s)
        go false s e (inr i) r = r e i

    -- ---- `add_new`: members and order
    in_add : (u v : A) (xs : List A) → In u (add_new same v xs) → In u xs ⊎ (u ≡ v)
    unfolding add_new
    in_add u v xs i = go (has same v xs) i
      where
        go : (t : Bool) → In u (cond t xs (xs ++ (v ∷ []))) → In u xs ⊎ (u ≡ v)
        go true i = inl i
        go false i = in_snoc u v xs i

    add_in : (u v : A) (xs : List A) → In u xs ⊎ (u ≡ v) → In u (add_new same v xs)
    unfolding add_new
    add_in u v xs i = go (has same v xs) refl i
      where
        go : (t : Bool) → has same v xs ≡ t → In u xs ⊎ (u ≡ v) → In u (cond t xs (xs ++ (v ∷ [])))
        go true e (inl i) = i
        go true e (inr p) = subst (λ (z : A). In z xs) (sym p) (has_in v xs e)
        go false e i = snoc_in u v xs i

    snoc_once : (v : A) (xs : List A) → Once same xs → ((x : A) → In x xs → T (not (same x v))) → Once same (xs ++ (v ∷ []))
    snoc_once v [] o h = (tt, tt)
    snoc_once v (x ∷ xs) o h = (
      all_of (λ y. not (same x y)) (xs ++ (v ∷ [])) (λ y i. elim (in_snoc y v xs i) [
        | inl j ↦ all_in (λ y. not (same x y)) xs o.0 y j
        | inr e ↦ subst (λ (z : A). T (not (same x z))) (sym e) (h x (inl refl))
      ]),
      snoc_once v xs o.1 (λ y i. h y (inr i)),
    )

    add_once : (v : A) (xs : List A) → Once same xs → Once same (add_new same v xs)
    unfolding add_new
    add_once v xs o = go (has same v xs) refl
      where
        go : (t : Bool) → has same v xs ≡ t → Once same (cond t xs (xs ++ (v ∷ [])))
        go true e = o
        go false e = snoc_once v xs o (has_not v xs e)

    take_once : (n : ℕ) (xs : List A) → Once same xs → Once same (take n xs)
    take_once zero xs o = tt
    take_once (suc n) [] o = tt
    take_once (suc n) (x ∷ xs) o =
        (all_of (λ y. not (same x y)) (take n xs) (λ y i. all_in (λ y. not (same x y)) xs o.0 y (in_take y n xs i)), take_once n xs o.1)

    -- values that all differ are no more than the list that has them all
    fewer : (xs ys : List A) → Once same xs → ((x : A) → In x xs → In x ys) → length xs ≤ length ys
    fewer [] ys o h = omega arith
    fewer (x ∷ xs) ys o h =
        let r = without x ys (h x (inl refl)) in
        let rest : length xs ≤ length r.0 = fewer xs r.0 o.1 (λ u i. elim (r.2 u (h u (inr i))) [
          | inl e ↦ absurd (ordered_once (λ x y. not (same x y)) x xs (λ t. T_not (same x x) t (holds (eq.self x))) o (subst (λ (z : A). In z xs) e i))
          | inr j ↦ j
        ]) in
        omega (arith, r.1)

    module _ (passes : ℕ → Bool) (value : ℕ → A) where
      -- ---- what `differing` is
      pub different_is : (n : ℕ) → Different same passes value n (differing same passes value n)
      unfolding differing
      different_is zero = record { once = tt; sound = λ v i. absurd i; whole = λ v j. absurd (not-suc-le-zero j.1) }
      different_is (suc n) = go (passes n) refl (different_is n)
        where
          later : {v : A} → Occurs same passes value n v → Occurs same passes value (suc n) v
          later (j, h, p, e) = (j, omega arith, p, e)

          now_or : {v : A} → Occurs same passes value (suc n) v → Occurs same passes value n v ⊎ ((passes n ≡ true) × (value n ≡ v))
          now_or {v} (j, h, p, e) = elim (eq-or-lt_of_le (le_of_suc-le-suc h)) [
            | inl q ↦ inr (subst (λ (m : ℕ). (passes m ≡ true) × (value m ≡ v)) q (p, e))
            | inr l ↦ inl (j, l, p, e)
          ]

          go : (t : Bool) → passes n ≡ t → Different same passes value n (differing same passes value n)
              → Different same passes value (suc n) (cond t (add_new same (value n) (differing same passes value n)) (differing same passes value n))
          go true e r = record {
            once = add_once (value n) (differing same passes value n) r.once;
            sound = λ v i. elim (in_add v (value n) (differing same passes value n) i) [ inl j ↦ later (r.sound v j) | inr q ↦ (n, omega arith, e, sym q) ];
            whole = λ v o. add_in v (value n) (differing same passes value n) (elim (now_or o) [ inl w ↦ inl (r.whole v w) | inr q ↦ inr (sym q.1) ]);
          }
          go false e r = record {
            once = r.once;
            sound = λ v i. later (r.sound v i);
            whole = λ v o. elim (now_or o) [ inl w ↦ r.whole v w | inr q ↦ absurd (clash q.0 e) ];
          }

      pub different_long : (n : ℕ) (xs ys : List A) → Different same passes value n xs → Different same passes value n ys → length xs ≡ length ys
      different_long n xs ys a b =
          le_antisymm (fewer xs ys a.once (λ v i. b.whole v (a.sound v i))) (fewer ys xs b.once (λ v i. a.whole v (b.sound v i)))

      -- there are at least k exactly if k values, no two the same, occur
      pub many_if : (n k : ℕ) → Many same passes value n k → k ≤ length (differing same passes value n)
      many_if n k m =
          let l : length m.values ≤ length (differing same passes value n) = fewer m.values (differing same passes value n) m.once
          (λ v i. (different_is n).whole v (m.occur v i)) in
          omega (arith, m.count)

      pub many_only : (n k : ℕ) → k ≤ length (differing same passes value n) → Many same passes value n k
      many_only n k h = record {
        values = take k (differing same passes value n);
        count = length-take-le k (differing same passes value n) h;
        once = take_once k (differing same passes value n) (different_is n).once;
        occur = λ v i. (different_is n).sound v (in_take v k (differing same passes value n) i);
      }
