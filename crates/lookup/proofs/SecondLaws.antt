-- The second: `least_among` of one entry more, what `weigh` makes of the best so far, and what the loop holds; that the second is one of the list; and
-- what `second_of` is: the first of the least errors among those that mix, else the shortlist's first, and nothing of an empty list
-- (`second_is`), which determines it (`second_only`). Assumes nothing.
use mathlib.Core.Path.{◌≡◌, refl, sym, ap, ◌∙◌, subst}
use mathlib.Core.Logic.{◌⊎◌, inl, inr}
use mathlib.Core.List.{List, [], ◌∷◌, ◌++◌}
use mathlib.Core.Bool.{Bool, true, false, cond}
use Prim.Native.Nat.{ℕ, ◌+◌, ◌<◌}
use native.Mathlib.Numerals.{add-one}
use native.Mathlib.Omega.{arith}
use lib.Dec.{T}
use lib.ListN.{length, get_or, take, length-append, get_or-append}
use lib.Seq.{take-suc, get_or-append-add}
use lib.Ieee.{Float, binary32, lt, fits}
use lib.Ieee.Fits.{add-fits}
use Rattle.floats.specs.Bytes.{dot}
use Rattle.floats.proofs.Order.{Plain, upto_plain, trichotomy}
use Rattle.lists.specs.Least.{least_of}
use Rattle.lists.specs.Order.{In}
use Rattle.lists.proofs.LeastLaws.{least_step, least_one, least_inside, least_same, least_is, least_only}
use Rattle.lists.proofs.OrderLaws.{in_at}
use Rattle.color.specs.declared.NormalizedColor.{NormalizedColor}
use Rattle.mixing.specs.Lerp.{share_of, lerp_of, between, mix_residual, Bytes}
use Rattle.mixing.proofs.Between.{between_within}
use Rattle.mixing.proofs.Residuals.{residual_upto}
use Rattle.lookup.specs.Second.{those, least_among, second_in, second_of, IsSecondIn, mixable, mix_error, Held, BestBeside, improved, weighed}
use Rattle.lookup.specs.declared.seconds.Mix.{Mix}
use Rattle.std.specs.Prelude.{Option, Some, None, slice_get}
use Rattle.shortlist.proofs.NearestLaws.{by_lt}

-- ---- one entry more in `least_among`

module _ (e : ℕ → Float) where
  pub among_one : (k : ℕ) → least_among e (k ∷ []) ≡ k
  unfolding least_among
  among_one k = rw (least_one lt (λ j. e (get_or (k ∷ []) j 0)))

  pub among_more : (ks : List ℕ) (k : ℕ) → 0 < length ks → least_among e (ks ++ k ∷ []) ≡ cond (lt (e k) (e (least_among e ks))) k (least_among e ks)
  unfolding least_among
  among_more ks k h =
      let all : List ℕ = ks ++ k ∷ [] in
      let d : ℕ → Float = λ j. e (get_or all j 0) in
      let f : ℕ → Float = λ j. e (get_or ks j 0) in
      let n : ℕ = length ks in
      let r : ℕ = least_of lt f n in
      let size : length all ≡ n + 1 = length-append ks (k ∷ []) in
      let last : get_or all n 0 ≡ k = ap (λ (i : ℕ). get_or all i 0) (sym (plus n)) ∙ get_or-append-add ks (k ∷ []) 0 0 in
      let same : least_of lt d n ≡ r = least_same lt d f n (λ j l. ap e (get_or-append ks (k ∷ []) 0 j l)) in
      let here : get_or all r 0 ≡ get_or ks r 0 = get_or-append ks (k ∷ []) 0 r (least_inside lt f n h) in
      ap (λ (i : ℕ). get_or all (least_of lt d i) 0) size
      ∙ ap (λ (i : ℕ). get_or all i 0) (least_step lt d n)
      ∙ ap (λ (i : ℕ). get_or all (cond (lt (e (get_or all n 0)) (e (get_or all i 0))) n i) 0) same
      ∙ pick (lt (e (get_or all n 0)) (e (get_or all r 0))) all n r
      ∙ (λ i. cond (lt (e (last i)) (e (here i))) (last i) (here i))
    where
      plus : (n : ℕ) → n + 0 ≡ n
      plus n = omega arith

      pick : (b : Bool) (l : List ℕ) (x y : ℕ) → get_or l (cond b x y) 0 ≡ cond b (get_or l x 0) (get_or l y 0)
      pick true l x y = refl
      pick false l x y = refl

-- ---- what the loop holds

-- entry k with its error
abbrev mix : (ℕ → Float) → ℕ → Mix
mix e k = record { error = e k; position = k }

-- `improved` takes one entry more into account
held_more : (e : ℕ → Float) (best : Option Mix) (ks : List ℕ) (k : ℕ) → Held e best ks → Held e (improved best k true (e k)) (ks ++ k ∷ [])
unfolding improved
held_more e best [] k h = ap (λ (b : Option Mix). improved b k true (e k)) h ∙ ap (λ (j : ℕ). Some (mix e j)) (sym (among_one e k))
held_more e best (j ∷ js) k h =
    let m : ℕ = least_among e (j ∷ js) in
    ap (λ (b : Option Mix). improved b k true (e k)) h ∙ go (lt (e k) (e m)) k m ∙ ap (λ (i : ℕ). Some (mix e i)) (sym (among_more e (j ∷ js) k (omega arith)))
  where
    go : (t : Bool) (i j : ℕ) → cond t (Some (mix e i)) (Some (mix e j)) ≡ Some (mix e (cond t i j))
    go true i j = refl
    go false i j = refl

those_more : (p : ℕ → Bool) (xs : List ℕ) (k : ℕ) → those p (xs ++ k ∷ []) ≡ cond (p k) (those p xs ++ k ∷ []) (those p xs)
those_more p [] k = refl
those_more p (x ∷ xs) k = go (p x) (p k) (those_more p xs k)
  where
    go : (u v : Bool) → those p (xs ++ k ∷ []) ≡ cond v (those p xs ++ k ∷ []) (those p xs)
        → cond u (x ∷ those p (xs ++ k ∷ [])) (those p (xs ++ k ∷ []))
        ≡ cond v (cond u (x ∷ those p xs) (those p xs) ++ k ∷ []) (cond u (x ∷ those p xs) (those p xs))
    go true true q = ap (λ (l : List ℕ). x ∷ l) q
    go true false q = ap (λ (l : List ℕ). x ∷ l) q
    go false true q = q
    go false false q = q

-- what `weigh` answers
pub weighed_is : (best r : Option Mix) (k : ℕ) (a b c : NormalizedColor) (t : Float) (s : Bool) (x : Float) → t ≡ lerp_of a b c false → s ≡ between t
    → x ≡ mix_residual a b t c → r ≡ improved best k s x → r ≡ weighed best k a b c
unfolding weighed lerp_of
weighed_is best r k a b c t s x T S X e =
    e ∙ ap (λ (u : Bool). improved best k u x) (S ∙ ap between T)
    ∙ ap (improved best k (between (share_of a b c))) (X ∙ ap (λ (v : Float). mix_residual a b v c) T)

module _ (normalized : ℕ → NormalizedColor) (a : ℕ) (c : NormalizedColor) where
  one_more : (best : Option Mix) (ks : List ℕ) (k : ℕ) → BestBeside normalized a c ks best
      → BestBeside normalized a c (ks ++ k ∷ []) (weighed best k (normalized a) (normalized k) c)
  unfolding weighed improved
  one_more best ks k h = rw (those_more (mixable normalized a c) ks k) (go (mixable normalized a c k))
    where
      go : (u : Bool) → Held (mix_error normalized a c) (improved best k u (mix_error normalized a c k))
          (cond u (those (mixable normalized a c) ks ++ k ∷ []) (those (mixable normalized a c) ks))
      go true = held_more (mix_error normalized a c) best (those (mixable normalized a c) ks) k h
      go false = h

  -- a turn of the loop
  pub weighing_more : (ps : List ℕ) {c1 : NormalizedColor} {i : ℕ} (best : Option Mix) → c1 ≡ normalized a → BestBeside normalized a c (take i ps) best
      → i < length ps → (r : Option Mix) → r ≡ weighed best (get_or ps i 0) c1 (normalized (get_or ps i 0)) c
      → BestBeside normalized a c (take (i + 1) ps) r
  weighing_more ps {c1} {i} best p h l r e =
      let k : ℕ = get_or ps i 0 in
      let next : take (i + 1) ps ≡ take i ps ++ k ∷ [] = ap (λ (m : ℕ). take m ps) (add-one i) ∙ take-suc ps i 0 l in
      let same : r ≡ weighed best k (normalized a) (normalized k) c = e ∙ ap (λ (x : NormalizedColor). weighed best k x (normalized k) c) p in
      rw (next, same) (one_more best (take i ps) k h)

-- ---- the end: what the loop held, read out
module _ (e : ℕ → Float) where
  pub second_found : (best : Mix) (qs ks : List ℕ) → Held e (Some best) qs → Some best.position ≡ second_in e qs ks
  second_found best [] ks h = absurd (never h)
    where
      never : Some best ≡ None → ⊥
      never h = let z : ◌≡◌ {A = ℕ} 0 1 = cc in omega arith
  second_found best (q ∷ qs) ks h = ap (λ (m : Option Mix). position_of m) h
    where
      position_of : Option Mix → Option ℕ
      position_of None = None
      position_of (Some m) = Some m.position

  pub second_front : (qs ks : List ℕ) → Held e None qs → slice_get ks 0 ≡ second_in e qs ks
  second_front (q ∷ qs) ks h = absurd (never _ h)
    where
      never : (m : Mix) → None ≡ Some m → ⊥
      never m h = let z : ◌≡◌ {A = ℕ} 0 1 = cc in omega arith
  second_front [] [] h = refl
  second_front [] (k ∷ ks) h = refl

-- ---- those that pass, and where the second is found
pub those_in : (p : ℕ → Bool) (ks : List ℕ) (k : ℕ) → In k (those p ks) → In k ks × (p k ≡ true)
those_in p [] k i = absurd i
those_in p (x ∷ ks) k i = go (p x) refl i (those_in p ks k)
  where
    go : (t : Bool) → p x ≡ t → In k (cond t (x ∷ those p ks) (those p ks)) → (In k (those p ks) → In k ks × (p k ≡ true)) → ((k ≡ x) ⊎ In k ks) × (p k ≡ true)
    go true q (inl e) later = (inl e, ap p e ∙ q)
    go true q (inr h) later = (inr (later h).0, (later h).1)
    go false q h later = (inr (later h).0, (later h).1)

among_in : (e : ℕ → Float) (ks : List ℕ) → 0 < length ks → In (least_among e ks) ks
unfolding least_among
among_in e ks h = in_at 0 ks (least_of lt (λ j. e (get_or ks j 0)) (length ks)) (least_inside lt (λ j. e (get_or ks j 0)) (length ks) h)

pub second_in_lem : (p : ℕ → Bool) (e : ℕ → Float) (ks : List ℕ) (b : ℕ) → second_of p e ks ≡ Some b → In b ks
second_in_lem p e ks b q = go (those p ks) ks q (λ k i. (those_in p ks k i).0)
  where
    at : (u : ℕ) → Some u ≡ Some b → u ≡ b
    at u h = cc

    never : None ≡ Some b → ⊥
    never h = let z : ◌≡◌ {A = ℕ} 0 1 = cc in omega arith

    go : (qs ks : List ℕ) → second_in e qs ks ≡ Some b → ((k : ℕ) → In k qs → In k ks) → In b ks
    go (x ∷ qs) ks h sub = sub b (subst (λ (u : ℕ). In u (x ∷ qs)) (at (least_among e (x ∷ qs)) h) (among_in e (x ∷ qs) (omega arith)))
    go [] (k ∷ ks) h sub = inl (sym (at k h))
    go [] [] h sub = absurd (never h)

-- ---- what the second is

module _ (p : ℕ → Bool) (e : ℕ → Float) (ks : List ℕ) where
  pub second_is : ((k : ℕ) → In k ks → p k ≡ true → Plain (e k)) → IsSecondIn e (those p ks) ks (second_of p e ks)
  unfolding least_among
  second_is plain = go (those p ks) ks (λ k i. let r = those_in p ks k i in plain k r.0 r.1)
    where
      known : (qs : List ℕ) → ((k : ℕ) → In k qs → Plain (e k)) → (j : ℕ) → j < length qs → Plain (e (get_or qs j 0))
      known qs h j l = h (get_or qs j 0) (in_at 0 qs j l)

      is : (qs : List ℕ) → Some (least_among e qs) ≡ Some (get_or qs (least_of lt (λ (j : ℕ). e (get_or qs j 0)) (length qs)) 0)
      is qs = refl

      go : (qs ks : List ℕ) → ((k : ℕ) → In k qs → Plain (e k)) → IsSecondIn e qs ks (second_in e qs ks)
      go (q ∷ qs) ks h =
          (least_of lt (λ (j : ℕ). e (get_or (q ∷ qs) j 0)) (length (q ∷ qs)), least_is by_lt (length (q ∷ qs)) (omega arith) (known (q ∷ qs) h), is (q ∷ qs))
      go [] (k ∷ ks) h = refl
      go [] [] h = refl

  pub second_only : (s t : Option ℕ) → IsSecondIn e (those p ks) ks s → IsSecondIn e (those p ks) ks t → s ≡ t
  second_only s t a b = go (those p ks) ks a b
    where
      go : (qs ks : List ℕ) → IsSecondIn e qs ks s → IsSecondIn e qs ks t → s ≡ t
      go (q ∷ qs) ks a b = a.2 ∙ ap (λ (r : ℕ). Some (get_or (q ∷ qs) r 0)) (least_only a.1 b.1) ∙ sym b.2
      go [] (k ∷ ks) a b = a ∙ sym b
      go [] [] a b = a ∙ sym b

-- ---- the errors that are compared
module _ (normalized : ℕ → NormalizedColor) (a : ℕ) (c : NormalizedColor) (A : Bytes (normalized a)) (C : Bytes c) where
  -- such an error is finite, not negative and not -0, so no NaN arises
  pub error_plain : (k : ℕ) → Bytes (normalized k) → mixable normalized a c k ≡ true → Plain (mix_error normalized a c k)
  error_plain k K t =
      let share : Float = share_of (normalized a) (normalized k) c in
      upto_plain 3121200 (mix_error normalized a c k) (residual_upto (normalized a) (normalized k) share c A K (between_within share t) C)

  error_fits : (k : ℕ) → T (fits binary32 (mix_error normalized a c k))
  unfolding mix_residual dot
  error_fits k = add-fits binary32 _ _

  -- one is below the other, or they are the same: on them `<` decides as the Rust's `total_cmp` does
  pub error_order : (j k : ℕ) → Bytes (normalized j) → Bytes (normalized k) → mixable normalized a c j ≡ true → mixable normalized a c k ≡ true
      → T (lt (mix_error normalized a c j) (mix_error normalized a c k))
      ⊎ ((mix_error normalized a c j ≡ mix_error normalized a c k) ⊎ T (lt (mix_error normalized a c k) (mix_error normalized a c j)))
  error_order j k J K s t =
      trichotomy binary32 (mix_error normalized a c j) (mix_error normalized a c k) (error_plain j J s) (error_plain k K t) (error_fits j) (error_fits k)
