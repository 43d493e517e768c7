-- The nearest two: what `two_of` answers; both are entries, and the second is another one; with one candidate there is no second, with more there is;
-- and they are what document 01 says of them (`nearest_two_is`), which no other two are (`nearest_two_only`). Assumes nothing.
use mathlib.Core.Path.{◌≡◌, refl, sym, ap, ◌∙◌, subst}
use mathlib.Core.List.{List, [], ◌∷◌}
use mathlib.Core.Bool.{Bool}
use Prim.Native.Nat.{ℕ, suc, ◌<◌}
use native.Mathlib.Nat.{not-suc-le-zero}
use native.Mathlib.Omega.{arith}
use lib.Dec.{T}
use lib.ListN.{length, length-take}
use lib.Ieee.{Float}
use Rattle.floats.proofs.Order.{Plain}
use Rattle.lists.specs.Order.{In}
use Rattle.lists.proofs.LeastLaws.{least_only}
use Rattle.color.specs.declared.NormalizedColor.{NormalizedColor}
use Rattle.color.specs.declared.Oklab.{Oklab}
use Rattle.color.specs.Oklab.{all_in_range}
use Rattle.mixing.specs.Lerp.{Bytes}
use Rattle.mixing.specs.Widths.{clamp_width}
use Rattle.shortlist.specs.Candidates.{Candidates}
use Rattle.shortlist.specs.Nearest.{distances, nearest_of}
use Rattle.shortlist.specs.Shortlist.{ranked, shortlist_of, Shortlist}
use Rattle.lookup.specs.Second.{those, second_in, second_of, IsSecondIn, mixable, mix_error, second_to, nearest_two_of, NearestTwo}
use Rattle.lookup.specs.declared.Two.{Two}
use Rattle.std.specs.Prelude.{Option, Some, None}
use Rattle.shortlist.proofs.NearestLaws.{nearest_least, nearest_inside, distances_plain}
use Rattle.shortlist.proofs.RankedLaws.{is_ranked, length-ranked}
use Rattle.shortlist.proofs.ArrayLaws.{clamp_low}
use Rattle.shortlist.proofs.ShortlistLaws.{in_take, shortlist_is, shortlist_only}
use Rattle.lookup.proofs.SecondLaws.{second_in_lem, second_is, second_only, error_plain}

module _ (cs : Candidates) (width : ℕ) (o : Oklab) (c : NormalizedColor) where
  pub two_is : (a : ℕ) (ps : List ℕ) (r : Option ℕ) → a ≡ nearest_of cs o → ps ≡ shortlist_of (distances (cs.oklab a) cs.oklab) a cs.count width
      → r ≡ second_of (mixable cs.normalized a c) (mix_error cs.normalized a c) ps
      → ◌≡◌ {A = Two} (record { first = a; second = r }) (nearest_two_of cs width o c)
  unfolding nearest_two_of
  two_is a ps r p q e =
      let s : r ≡ second_to cs width c (nearest_of cs o) =
      e ∙ ap (second_of (mixable cs.normalized a c) (mix_error cs.normalized a c)) q ∙ ap (second_to cs width c) p in
      λ i. record { first = p i; second = s i }

  -- ---- with one candidate there is no second, with more there is
  none : (p : ℕ → Bool) (e : ℕ → Float) (ks : List ℕ) → length ks ≡ 0 → second_of p e ks ≡ None
  none p e [] h = refl
  none p e (k ∷ ks) h = absurd (omega arith)

  some : (p : ℕ → Bool) (e : ℕ → Float) (ks : List ℕ) → 0 < length ks → (b : ℕ) × (second_of p e ks ≡ Some b)
  some p e [] h = absurd (not-suc-le-zero h)
  some p e (k ∷ ks) h = go (those p (k ∷ ks))
    where
      go : (qs : List ℕ) → (b : ℕ) × (second_in e qs (k ∷ ks) ≡ Some b)
      go [] = (k, refl)
      go (q ∷ qs) = (_, refl)

  module _ (positive : 0 < cs.count) where
    abbrev a : ℕ
    a = nearest_of cs o

    pub first_inside : (nearest_two_of cs width o c).first < cs.count
    unfolding nearest_two_of
    first_inside = nearest_inside cs.oklab cs.count o positive

    size : suc (length (ranked (distances (cs.oklab a) cs.oklab) a cs.count)) ≡ cs.count
    size = length-ranked (distances (cs.oklab a) cs.oklab) a cs.count (nearest_inside cs.oklab cs.count o positive)

    abbrev short : List ℕ
    short = shortlist_of (distances (cs.oklab a) cs.oklab) a cs.count width

    pub one_alone : cs.count ≡ 1 → (nearest_two_of cs width o c).second ≡ None
    unfolding nearest_two_of
    one_alone one =
        none (mixable cs.normalized a c) (mix_error cs.normalized a c) short
        (omega (arith, size, length-take (clamp_width width) (ranked (distances (cs.oklab a) cs.oklab) a cs.count)))

    pub two_or_more : 1 < cs.count → (b : ℕ) × ((nearest_two_of cs width o c).second ≡ Some b)
    unfolding nearest_two_of
    two_or_more more =
        some (mixable cs.normalized a c) (mix_error cs.normalized a c) short
        (omega (arith, size, clamp_low width, length-take (clamp_width width) (ranked (distances (cs.oklab a) cs.oklab) a cs.count)))

    module _ (range : (k : ℕ) → k < cs.count → T (all_in_range (cs.oklab k))) where
      other : (b : ℕ) → (nearest_two_of cs width o c).second ≡ Some b → (b < cs.count) × (b ≡ a → ⊥)
      unfolding nearest_two_of
      other b e =
          let d = distances (cs.oklab a) cs.oklab in
          let i : In b short = second_in_lem (mixable cs.normalized a c) (mix_error cs.normalized a c) short b e in
          let plain = distances_plain cs.oklab cs.count range (cs.oklab a) (range a (nearest_inside cs.oklab cs.count o positive)) in
          (is_ranked d a cs.count plain).sound b (in_take (clamp_width width) (ranked d a cs.count) b i)

      pub second_inside : (b : ℕ) → (nearest_two_of cs width o c).second ≡ Some b → b < cs.count
      second_inside b e = (other b e).0

      pub second_other : (b : ℕ) → (nearest_two_of cs width o c).second ≡ Some b → b ≡ (nearest_two_of cs width o c).first → ⊥
      unfolding nearest_two_of
      second_other b e = (other b e).1

-- ---- what the nearest two are
module _ (cs : Candidates) (width : ℕ) (o : Oklab) (c : NormalizedColor) (positive : 0 < cs.count)
    (range : (k : ℕ) → k < cs.count → T (all_in_range (cs.oklab k))) where
  -- every distance from an entry is finite, not negative and not -0
  plain : (a : ℕ) → a < cs.count → (k : ℕ) → k < cs.count → Plain (distances (cs.oklab a) cs.oklab k)
  plain a i = distances_plain cs.oklab cs.count range (cs.oklab a) (range a i)

  pub nearest_two_is : T (all_in_range o) → ((k : ℕ) → k < cs.count → Bytes (cs.normalized k)) → Bytes c → NearestTwo cs width o c (nearest_two_of cs width o c)
  unfolding nearest_two_of
  nearest_two_is O bytes C =
      let a : ℕ = nearest_of cs o in
      let i : a < cs.count = nearest_inside cs.oklab cs.count o positive in
      let ks : List ℕ = shortlist_of (distances (cs.oklab a) cs.oklab) a cs.count width in
      let short = shortlist_is (distances (cs.oklab a) cs.oklab) a cs.count (plain a i) i width in
      record {
        nearest = nearest_least cs o positive range O;
        others = ks;
        shortlist = short;
        beside = second_is (mixable cs.normalized a c) (mix_error cs.normalized a c) ks
            (λ k m. error_plain cs.normalized a c (bytes a i) C k (bytes k (short.sound k m).0));
      }

  -- and there are no other such two
  pub nearest_two_only : (t u : Two) → NearestTwo cs width o c t → NearestTwo cs width o c u → t ≡ u
  nearest_two_only t u x y =
      let q : t.first ≡ u.first = least_only x.nearest y.nearest in
      let s : t.second ≡ u.second = subst Same q here y.others u.second y.shortlist y.beside in
      λ i. record { first = q i; second = s i }
    where
      w : ℕ
      w = clamp_width width

      -- whatever the second beside a is, it is t's
      Same : ℕ → Type 0
      Same a =
          (ks : List ℕ) (s : Option ℕ) → Shortlist (distances (cs.oklab a) cs.oklab) a cs.count w ks
          → IsSecondIn (mix_error cs.normalized a c) (those (mixable cs.normalized a c) ks) ks s → t.second ≡ s

      here : Same t.first
      here ks s short is =
          let a : ℕ = t.first in
          let p = mixable cs.normalized a c in
          let e = mix_error cs.normalized a c in
          let same : ks ≡ x.others =
          shortlist_only (distances (cs.oklab a) cs.oklab) a cs.count w (plain a x.nearest.inside) ks x.others short x.shortlist in
          second_only p e x.others t.second s x.beside (subst (λ (l : List ℕ). IsSecondIn e (those p l) l s) same is)

-- ---- the same of an answer that is equal to it
module _ (cs : Candidates) (width : ℕ) (o : Oklab) (c : NormalizedColor) (two : Two) (e : two ≡ nearest_two_of cs width o c) (positive : 0 < cs.count) where
  pub first_entry : two.first < cs.count
  first_entry = subst (λ (t : Two). t.first < cs.count) (sym e) (first_inside cs width o c positive)

  pub second_entry : ((k : ℕ) → k < cs.count → T (all_in_range (cs.oklab k))) → (b : ℕ) → two.second ≡ Some b → b < cs.count
  second_entry range b s = second_inside cs width o c positive range b (ap (λ (t : Two). t.second) (sym e) ∙ s)
