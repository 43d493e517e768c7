-- What `judged_of` is: the tile that it names is over its limit and no earlier one is, and where it names none, none is (`judged_is`); no other
-- answer is that (`judged_only`). A tile is over its limit exactly if so many colours and one more, no two the same, are those of its
-- pixels (`over_if`, `over_only`). The answer depends on nothing but the picture's pixels (`judged_same`). Assumes nothing.
use mathlib.Core.Path.{◌≡◌, refl, ap}
use mathlib.Core.Bool.{Bool, true, false, cond}
use mathlib.Core.List.{List}
use Prim.Native.Nat.{ℕ, ◌+◌, ◌*◌, ◌<◌}
use native.Mathlib.Nat.{lt_of_lt_of_le}
use native.Mathlib.Omega.{arith}
use borrow.Author.Tests.{ltb-true, ltb-false}
use lib.Dec.{T, T_not, ltb, ltb→lt, lt→ltb}
use lib.ListN.{length}
use Rattle.lists.specs.First.{first_that, First}
use Rattle.replies.specs.Unique.{Unique}
use Rattle.lists.proofs.FirstLaws.{first_is, first_only}
use Rattle.color.specs.declared.ReducedColor.{ReducedColor}
use Rattle.color.specs.Color.{same_reduced}
use Rattle.color.proofs.Same.{same→equal, same_self}
use Rattle.lists.specs.Different.{Many}
use Rattle.judging.specs.Tiles.{tile_count, counts_in, colors_in, is_over, first_over, verdict_of, judged_of, JudgedAs}
use Rattle.std.specs.Prelude.{Some, None}
use Rattle.lists.proofs.DifferentLaws.{Equality, differing_same, many_if, many_only}

equality : Equality same_reduced
equality = record { equal = same→equal; self = same_self }

module _ (shown : ℕ → Bool) (color : ℕ → ReducedColor) (w h tw th : ℕ) where
  -- ---- over its limit
  pub over_only : (limit t : ℕ) → T (is_over shown color w h tw th limit t) → Many same_reduced (counts_in shown w tw th t) color (w * h) (limit + 1)
  unfolding is_over colors_in
  over_only limit t o =
      many_only equality (counts_in shown w tw th t) color (w * h) (limit + 1) (omega (arith, ltb→lt limit (length (colors_in shown color w h tw th t)) o))

  pub over_if : (limit t : ℕ) → Many same_reduced (counts_in shown w tw th t) color (w * h) (limit + 1) → T (is_over shown color w h tw th limit t)
  unfolding is_over colors_in
  over_if limit t m =
      lt→ltb limit (length (colors_in shown color w h tw th t)) (omega (arith, many_if equality (counts_in shown w tw th t) color (w * h) (limit + 1) m))

  -- ---- the answer
  module _ (limit : ℕ) where
    pub judged_is : JudgedAs shown color w h tw th limit (judged_of shown color w h tw th limit)
    unfolding judged_of verdict_of
    judged_is = go (ltb (first_over shown color w h tw th limit) (tile_count w h tw th)) refl
        (first_is (is_over shown color w h tw th limit) (tile_count w h tw th))
      where
        go : (t : Bool) → ltb (first_over shown color w h tw th limit) (tile_count w h tw th) ≡ t
            → First (is_over shown color w h tw th limit) (tile_count w h tw th) (first_over shown color w h tw th limit)
            → JudgedAs shown color w h tw th limit (cond t (Some (first_over shown color w h tw th limit)) None)
        go true e f = let l = ltb-true (first_over shown color w h tw th limit) (tile_count w h tw th) e in (l, f.passes l, f.before)
        go false e f = λ t l. f.before t (lt_of_lt_of_le l (ltb-false (first_over shown color w h tw th limit) (tile_count w h tw th) e))

    pub judged_only : Unique (JudgedAs shown color w h tw th limit)
    judged_only None None a b = refl
    judged_only None (Some t) a b = absurd (T_not (is_over shown color w h tw th limit t) (a t b.0) b.1)
    judged_only (Some t) None a b = absurd (T_not (is_over shown color w h tw th limit t) (b t a.0) a.1)
    judged_only (Some t) (Some u) a b = ap Some (first_only (first t a) (first u b))
      where
        first : (t : ℕ) → JudgedAs shown color w h tw th limit (Some t) → First (is_over shown color w h tw th limit) (tile_count w h tw th) t
        first t a = record { inside = omega (arith, a.0); before = a.2; passes = λ _. a.1 }

-- two pictures of which the same pixels are not transparent, with the same colours
module _ {shown shown' : ℕ → Bool} {color color' : ℕ → ReducedColor} (w h tw th : ℕ) (alike : (i : ℕ) → i < w * h → shown i ≡ shown' i) (colors : (i : ℕ)
    → i < w * h → color i ≡ color' i) where
  pub over_same : (limit t : ℕ) → is_over shown color w h tw th limit t ≡ is_over shown' color' w h tw th limit t
  unfolding is_over colors_in counts_in
  over_same limit t =
      ap (λ (cs : List ReducedColor). ltb limit (length cs))
      (differing_same same_reduced (counts_in shown w tw th t) color (counts_in shown' w tw th t) color' (w * h) (λ i l. rw (alike i l)) colors)

  pub judged_same : (limit : ℕ) → judged_of shown color w h tw th limit ≡ judged_of shown' color' w h tw th limit
  unfolding judged_of
  judged_same limit = ap (λ (over : ℕ → Bool). verdict_of (first_that over (tile_count w h tw th)) (tile_count w h tw th)) (λ i t. over_same limit t i)
