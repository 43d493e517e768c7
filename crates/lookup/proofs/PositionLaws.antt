-- Where entries of one reduced colour are alike, the lookups take the first entry of a colour: the nearest is one (`nearest_first`), the second where its
-- colour is not the nearest's (`second_first`), and of a bracket dark, and light where its colour is not dark's (`bracket_first`). Such an entry is the
-- first that is equal to its colour (`first_equal_lem`), as a picture's index has to be: what is taken as the nearest is (`nearest_taken`), and what is picked of
-- a bracket (`picked_taken`), whose colours are those at its positions (`bracket_ends`). Assumes nothing.
use mathlib.Core.Path.{◌≡◌, refl, sym, ap, ◌∙◌, subst}
use mathlib.Core.Logic.{◌⊎◌, inl, inr}
use mathlib.Core.List.{List, [], ◌∷◌}
use mathlib.Core.Bool.{Bool, true, false, cond, not, ◌&&◌, ◌||◌}
use Prim.Native.Nat.{ℕ, ◌*◌, ◌<◌}
use native.Mathlib.Nat.{not-suc-le-zero}
use native.Mathlib.Omega.{arith}
use lib.Dec.{T, T_not, not_T, eqb, ltb, eqb_refl}
use lib.ListN.{length, get_or}
use lib.Ieee.{Float, nan, inf, fin, up, down, lt, eq, le}
use lib.Ieee.Fits.{and_i}
use Rattle.floats.specs.Bounds.{Within}
use Rattle.floats.proofs.Range.{or_r}
use Rattle.floats.proofs.Order.{lt_irreflexive, lt_transitive}
use Rattle.lists.specs.First.{first_that}
use Rattle.lists.specs.Least.{least_of}
use Rattle.lists.specs.Order.{In, Ordered}
use Rattle.lists.proofs.Bools.{holds, fails, is_true, clash}
use Rattle.lists.proofs.FirstLaws.{first_is, first_only}
use Rattle.lists.proofs.LeastLaws.{least_inside, no_earlier}
use Rattle.lists.proofs.OrderLaws.{all_in, all_of, in_at, ordered_earlier}
use Rattle.color.specs.declared.NormalizedColor.{NormalizedColor}
use Rattle.color.specs.declared.ReducedColor.{ReducedColor}
use Rattle.color.specs.declared.Oklab.{Oklab}
use Rattle.color.specs.Color.{same_reduced}
use Rattle.color.specs.Oklab.{all_in_range, sqdist_of}
use Rattle.color.proofs.Distances.{all_in_range_lem}
use Rattle.color.proofs.Same.{same→equal, equal→same}
use Rattle.mixing.specs.Lerp.{share_of, between, mix_residual}
use Rattle.shortlist.specs.Candidates.{Candidates}
use Rattle.shortlist.specs.Nearest.{distances, nearest_of}
use Rattle.shortlist.specs.Shortlist.{ranks_before, shortlist_of}
use Rattle.shortlist.proofs.NearestLaws.{nearest_inside, distances_plain}
use Rattle.shortlist.proofs.RankedLaws.{before_place, before_asymmetric}
use Rattle.shortlist.proofs.ShortlistLaws.{shortlist_is}
use Rattle.lookup.specs.Second.{those, least_among, second_in, second_of, mixable, mix_error, nearest_two_of}
use Rattle.lookup.specs.Bracket.{bracket_with, bracket_two, bracket_at_of, colored, bracket_of, is_light, pick_at, position_at, choice_at}
use Rattle.lookup.specs.Positions.{Alike, first_equal, FirstOfColor, Takes, EndsOf}
use Rattle.lookup.specs.declared.BracketAt.{BracketAt}
use Rattle.lookup.specs.declared.Bracket.{Bracket}
use Rattle.lookup.specs.declared.Choice.{Choice}
use Rattle.std.specs.Prelude.{Option, Some, None}
use Rattle.lookup.proofs.SecondLaws.{those_in, second_in_lem}
use Rattle.lookup.proofs.TwoLaws.{second_inside}
use Rattle.lookup.proofs.BracketLaws.{bracket_inside}

-- ---- the first of its colour is the first entry equal to it
-- entry k has the colour c, and no earlier one has
pub first_of_equals : (reduced : ℕ → ReducedColor) (n : ℕ) (c : ReducedColor) (k : ℕ) → k < n → reduced k ≡ c → ((j : ℕ) → j < k → reduced j ≡ c → ⊥)
    → first_that (λ j. same_reduced (reduced j) c) n ≡ k
first_of_equals reduced n c k inside equal first =
    first_only (first_is same n)
    (record {
      inside = omega arith;
      before = λ j l. not_T (same j) (λ t. first j l (same→equal (reduced j) c (is_true (same j) t)));
      passes = λ _. holds (equal→same (reduced k) c equal);
    })
  where
    same : ℕ → Bool
    same j = same_reduced (reduced j) c

pub first_equal_lem : (cs : Candidates) (k : ℕ) → FirstOfColor cs k → first_equal cs (cs.reduced k) ≡ k
unfolding first_equal
first_equal_lem cs k f = first_of_equals cs.reduced cs.count (cs.reduced k) k f.inside refl f.first

-- ---- the second is the first of its like in a list
in_those : (p : ℕ → Bool) (ks : List ℕ) (k : ℕ) → In k ks → p k ≡ true → In k (those p ks)
in_those p [] k i t = i
in_those p (x ∷ ks) k i t = go (p x) refl i (λ h. in_those p ks k h t)
  where
    go : (u : Bool) → p x ≡ u → (k ≡ x) ⊎ In k ks → (In k ks → In k (those p ks)) → In k (cond u (x ∷ those p ks) (those p ks))
    go true q (inl e) later = inl e
    go true q (inr h) later = inr (later h)
    go false q (inl e) later = absurd (clash (sym (ap p e) ∙ t) q)
    go false q (inr h) later = later h

those_ordered : (before : ℕ → ℕ → Bool) (p : ℕ → Bool) (ks : List ℕ) → Ordered before ks → Ordered before (those p ks)
those_ordered before p [] o = tt
those_ordered before p (x ∷ ks) o = go (p x) (those_ordered before p ks o.1)
  where
    go : (u : Bool) → Ordered before (those p ks) → Ordered before (cond u (x ∷ those p ks) (those p ks))
    go true r = (all_of (before x) (those p ks) (λ k i. all_in (before x) ks o.0 k (those_in p ks k i).0), r)
    go false r = r

-- no member that is ranked before the second passes as it does and errs as it does
second_earliest : (d : ℕ → Float) (p : ℕ → Bool) (e : ℕ → Float) (ks : List ℕ) → Ordered (ranks_before d) ks → (j b : ℕ) → second_of p e ks ≡ Some b → In j ks
    → T (ranks_before d j b) → p j ≡ p b → e j ≡ e b → ⊥
unfolding least_among
second_earliest d p e ks o j b s i t passes errs =
    go (those p ks) ks s (those_ordered (ranks_before d) p ks o) o (λ h. in_those p ks j i (passes ∙ (those_in p ks b h).1)) i
  where
    at : (u : ℕ) → Some u ≡ Some b → u ≡ b
    at u h = cc

    earlier : (ks : List ℕ) → Ordered (ranks_before d) ks → (r : ℕ) → r < length ks → In j ks → get_or ks r 0 ≡ b → (i : ℕ) × (i < r) × (get_or ks i 0 ≡ j)
    earlier ks o r l i q =
        ordered_earlier (ranks_before d) 0 ks (λ x y _ _. before_asymmetric d x y) o r l j i (subst (λ (u : ℕ). T (ranks_before d j u)) (sym q) t)

    go : (qs ks : List ℕ) → second_in e qs ks ≡ Some b → Ordered (ranks_before d) qs → Ordered (ranks_before d) ks → (In b qs → In j qs) → In j ks → ⊥
    go (q ∷ qs) ks h o _ same i =
        let f : ℕ → Float = λ i. e (get_or (q ∷ qs) i 0) in
        let n : ℕ = length (q ∷ qs) in
        let r : ℕ = least_of lt f n in
        let l : r < n = least_inside lt f n (omega arith) in
        let is : get_or (q ∷ qs) r 0 ≡ b = at (get_or (q ∷ qs) r 0) h in
        let x = earlier (q ∷ qs) o r l (same (subst (λ (u : ℕ). In u (q ∷ qs)) is (in_at 0 (q ∷ qs) r l))) is in
        no_earlier lt lt_irreflexive lt_transitive f n x.0 x.1 (ap e x.2 ∙ errs ∙ ap e (sym is))
    go [] (k ∷ ks) h _ o same i = not-suc-le-zero (earlier (k ∷ ks) o 0 (omega arith) i (at k h)).1
    go [] [] h _ o same i = i

-- a finite number is at most itself
or_equal : (t : Bool) (n : ℕ) → T (t || (eqb n n && true))
or_equal t n = or_r t (eqb n n && true) (and_i (eqb n n) true (eqb_refl n) tt)

at_most_self : (A : ℕ) (x : Float) → Within A x → T (le x x)
unfolding le lt eq
at_most_self A nan h = absurd h
at_most_self A (inf s) h = absurd h
at_most_self A (fin true m e) h = let n : ℕ = m * up e * down e in or_equal (ltb n n) n
at_most_self A (fin false m e) h = let n : ℕ = m * up e * down e in or_equal (ltb n n) n

module _ (cs : Candidates) (positive : 0 < cs.count) (range : (k : ℕ) → k < cs.count → T (all_in_range (cs.oklab k))) (alike : Alike cs) where
  -- ---- the nearest: an earlier twin would be as near
  pub nearest_first : (o : Oklab) → FirstOfColor cs (nearest_of cs o)
  nearest_first o =
      let a : ℕ = nearest_of cs o in
      let A : a < cs.count = nearest_inside cs.oklab cs.count o positive in
      record {
        inside = A;
        first = λ j l e. no_earlier lt lt_irreflexive lt_transitive (distances o cs.oklab) cs.count j l
            (ap (sqdist_of o) (alike.oklab j a (omega arith) A e));
      }

  module _ (width : ℕ) (o : Oklab) (c : NormalizedColor) where
    -- ---- the second: an earlier twin would be in the shortlist and stand before it there, pass as it does and have its error
    pub second_first : (b : ℕ) → (nearest_two_of cs width o c).second ≡ Some b → (cs.reduced b ≡ cs.reduced (nearest_two_of cs width o c).first → ⊥)
        → FirstOfColor cs b
    unfolding nearest_two_of
    second_first b s differ = record { inside = B; first = λ j l e. no_twin j (omega (arith, B)) l e }
      where
        n : ℕ
        n = cs.count

        a : ℕ
        a = nearest_of cs o

        B : b < n
        B = second_inside cs width o c positive range b s

        no_twin : (j : ℕ) → j < n → j < b → cs.reduced j ≡ cs.reduced b → ⊥
        no_twin j h l e =
            let A : a < n = nearest_inside cs.oklab n o positive in
            let d = distances (cs.oklab a) cs.oklab in
            let p = mixable cs.normalized a c in
            let err = mix_error cs.normalized a c in
            let ks : List ℕ = shortlist_of d a n width in
            let short = shortlist_is d a n (distances_plain cs.oklab n range (cs.oklab a) (range a A)) A width in
            let near : d j ≡ d b = ap (sqdist_of (cs.oklab a)) (alike.oklab j b h B e) in
            let bytes : cs.normalized j ≡ cs.normalized b = alike.normalized j b h B e in
            let before : T (ranks_before d j b) =
            before_place d j b (subst (λ (x : Float). T (not (lt (d b) x))) (sym near) (not_T (lt (d b) (d b)) (lt_irreflexive (d b)))) l in
            before_asymmetric d j b before
            (short.beyond b j (second_in_lem p err ks b s) h (λ q. differ (sym e ∙ ap cs.reduced q))
            (λ i. second_earliest d p err ks short.order j b s i before
            (ap (λ (k : NormalizedColor). between (share_of (cs.normalized a) k c)) bytes)
            (ap (λ (k : NormalizedColor). mix_residual (cs.normalized a) k (share_of (cs.normalized a) k c) c) bytes)))

    -- ---- the bracket: where the second is dark it is darker than the nearest, and so of another colour
    pub bracket_first : FirstOfColor cs (bracket_at_of cs width o c).dark
        × ((cs.reduced (bracket_at_of cs width o c).dark ≡ cs.reduced (bracket_at_of cs width o c).light → ⊥)
        → FirstOfColor cs (bracket_at_of cs width o c).light)
    unfolding bracket_at_of bracket_with nearest_two_of
    bracket_first = go (nearest_two_of cs width o c).second (second_inside cs width o c positive range) second_first
      where
        a : ℕ
        a = nearest_of cs o

        A : FirstOfColor cs a
        A = nearest_first o

        Firsts : BracketAt → Type 0
        Firsts r = FirstOfColor cs r.dark × ((cs.reduced r.dark ≡ cs.reduced r.light → ⊥) → FirstOfColor cs r.light)

        ends : (u : Bool) (b : ℕ) (x y : Float) → le (cs.oklab a).l (cs.oklab b).l ≡ u → b < cs.count
            → ((cs.reduced b ≡ cs.reduced a → ⊥) → FirstOfColor cs b)
            → Firsts (cond u (record { dark = a; light = b; ratio = x }) (record { dark = b; light = a; ratio = y }))
        ends true b x y q B first = (A, λ differ. first (λ e. differ (sym e)))
        ends false b x y q B first = (first darker, λ _. A)
          where
            darker : cs.reduced b ≡ cs.reduced a → ⊥
            darker e =
                T_not (le (cs.oklab a).l (cs.oklab b).l) (fails q)
                (subst (λ (k : Oklab). T (le (cs.oklab a).l k.l)) (sym (alike.oklab b a B A.inside e))
                (at_most_self 2 (cs.oklab a).l (all_in_range_lem (cs.oklab a) (range a A.inside)).l))

        go : (s : Option ℕ) → ((b : ℕ) → s ≡ Some b → b < cs.count) → ((b : ℕ) → s ≡ Some b → (cs.reduced b ≡ cs.reduced a → ⊥) → FirstOfColor cs b)
            → Firsts (bracket_two cs.oklab cs.normalized c a s)
        go None inside first = (A, λ _. A)
        go (Some b) inside first = ends (le (cs.oklab a).l (cs.oklab b).l) b _ _ refl (inside b refl) (first b refl)

-- ---- what is taken: the first entry of its colour
module _ (cs : Candidates) (positive : 0 < cs.count) (range : (k : ℕ) → k < cs.count → T (all_in_range (cs.oklab k))) where
  pub nearest_taken : (o : Oklab) (r : Choice) → r.color ≡ cs.reduced (nearest_of cs o) → r.position ≡ nearest_of cs o
      → Takes cs (cs.reduced (nearest_of cs o)) r
  nearest_taken o r e k = record {
    color = e;
    inside = subst (λ (m : ℕ). m < cs.count) (sym k) (nearest_inside cs.oklab cs.count o positive);
    position = λ alike. k ∙ sym (first_equal_lem cs (nearest_of cs o) (nearest_first cs positive range alike o));
  }

  -- a bracket's colours are those at its positions
  pub bracket_ends : (width : ℕ) (o : Oklab) (c : NormalizedColor) → EndsOf cs (bracket_of cs width o c)
  unfolding colored
  bracket_ends width o c = record { inside = bracket_inside cs width o c positive range; dark = refl; light = refl }

  pub picked_taken : (width : ℕ) (o : Oklab) (c : NormalizedColor) (t : Float) (r : Choice) → r ≡ choice_at (bracket_of cs width o c) t
      → Takes cs (pick_at (bracket_of cs width o c) t) r
  unfolding colored pick_at position_at
  picked_taken width o c t r e = subst (Takes cs (pick_at b t)) (sym e) (go (is_light b t) refl)
    where
      at : BracketAt
      at = bracket_at_of cs width o c

      b : Bracket
      b = bracket_of cs width o c

      inside : (at.dark < cs.count) × (at.light < cs.count)
      inside = bracket_inside cs width o c positive range

      -- light is picked of two colours that differ
      differ : is_light b t ≡ true → cs.reduced at.dark ≡ cs.reduced at.light → ⊥
      differ q same = clash q (ap (λ (u : Bool). not u && lt t at.ratio) (equal→same (cs.reduced at.dark) (cs.reduced at.light) same))

      go : (u : Bool) → is_light b t ≡ u
          → Takes cs (cond u (cs.reduced at.light) (cs.reduced at.dark))
          (record { color = cond u (cs.reduced at.light) (cs.reduced at.dark); position = cond u at.light at.dark })
      go true q = record {
        color = refl;
        inside = inside.1;
        position = λ alike. sym (first_equal_lem cs at.light ((bracket_first cs positive range alike width o c).1 (differ q)));
      }
      go false q = record {
        color = refl;
        inside = inside.0;
        position = λ alike. sym (first_equal_lem cs at.dark (bracket_first cs positive range alike width o c).0);
      }
