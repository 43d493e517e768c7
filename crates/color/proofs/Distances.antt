-- Oklab distances. A component that passes the test of range is `Within 2`; so the distance of accepted colours is finite, at most 112, not
-- negative and not -0, and ordinary comparison puts such distances in their order. And what `oklab_sqdist` answers, by its number. Assumes nothing.
use mathlib.Core.Path.{◌≡◌, refl, sym, subst}
use mathlib.Core.Bool.{Bool, true, false, not, ◌&&◌}
use mathlib.Core.List.{[], ◌∷◌}
use lib.Dec.{T, lit≤, lit<}
use lib.Ieee.{Float, binary32, round, add, sub, mul, neg, le, of_bits, fits}
use lib.Ieee.Fits.{and_l, and_r, and_i, add-fits}
use Rattle.std.specs.Prelude.{Result}
use Rattle.replies.specs.Replies.{◌if◌, first_reply, Lowest}
use Rattle.replies.specs.Refusals.{number_of, answer, Answered}
use Rattle.replies.specs.declared.Refusal.{Refusal}
use Rattle.replies.proofs.AnswerLaws.{answers_lowest}
use Rattle.floats.specs.Over.{over}
use Rattle.floats.specs.Bounds.{Within, Upto}
use Rattle.floats.proofs.Range.{within_of_le, le_of_within}
use Rattle.floats.proofs.Within.{round_upto, mul_upto, square_upto, add_upto, sub_within}
use Rattle.color.specs.declared.Oklab.{Oklab}
use Rattle.color.specs.Oklab.{two, chroma, square, in_range, all_in_range, sqdist_of}
use Rattle.color.specs.Oklab.{distance_replies, OklabSqdistAnswered, distance_of}

-- ---- components
pub in_range_lem : (x : Float) → T (in_range x) → Within 2 x
unfolding in_range
in_range_lem x t = within_of_le 2 x two (refl, refl) (and_l (le (neg two) x) (le x two) t) (and_r (le (neg two) x) (le x two) t)

pub range_in : (x : Float) → Within 2 x → T (in_range x)
unfolding in_range
range_in x h = let k = le_of_within 2 x two (refl, refl) h in and_i (le (neg two) x) (le x two) k.0 k.1

-- a colour whose components are from -2 to 2
pub record Ranged (c : Oklab) : Type 0 where
  pub l : Within 2 c.l
  pub a : Within 2 c.a
  pub b : Within 2 c.b

pub all_in_range_lem : (c : Oklab) → T (all_in_range c) → Ranged c
unfolding all_in_range
all_in_range_lem c t =
    let u = and_r (in_range c.l) (in_range c.a && in_range c.b) t in
    record {
      l = in_range_lem c.l (and_l (in_range c.l) (in_range c.a && in_range c.b) t);
      a = in_range_lem c.a (and_l (in_range c.a) (in_range c.b) u);
      b = in_range_lem c.b (and_r (in_range c.a) (in_range c.b) u);
    }

pub range_all_in : (c : Oklab) → Ranged c → T (all_in_range c)
unfolding all_in_range
range_all_in c h = and_i (in_range c.l) _ (range_in c.l h.l) (and_i (in_range c.a) (in_range c.b) (range_in c.a h.a) (range_in c.b h.b))

-- ---- the distance
-- the code's weight is the f32 nearest to 2.15
pub chroma_is : of_bits binary32 0x4009_999a ≡ chroma
unfolding of_bits over round
chroma_is = refl

chroma_upto : Upto 3 chroma
unfolding over
chroma_upto = round_upto 3 215 100 (lit< tt) (lit≤ tt) (lit≤ tt)

-- the square of the difference of two components
part_upto : (x y : Float) → Within 2 x → Within 2 y → Upto 16 (square (sub binary32 x y))
part_upto x y X Y = square_upto 4 (sub binary32 x y) (lit≤ tt) (sub_within 2 2 x y (lit≤ tt) X Y)

pub distance_upto : (p q : Oklab) → Ranged p → Ranged q → Upto 112 (sqdist_of p q)
unfolding sqdist_of
distance_upto p q P Q =
    let dl = square (sub binary32 p.l q.l) in
    let da = square (sub binary32 p.a q.a) in
    let db = square (sub binary32 p.b q.b) in
    add_upto 16 96 dl (mul binary32 chroma (add binary32 da db)) (lit≤ tt) (part_upto p.l q.l P.l Q.l)
    (mul_upto 3 32 chroma (add binary32 da db) (lit≤ tt) chroma_upto
    (add_upto 16 16 da db (lit≤ tt) (part_upto p.a q.a P.a Q.a) (part_upto p.b q.b P.b Q.b)))

pub distance_fits : (p q : Oklab) → T (fits binary32 (sqdist_of p q))
unfolding sqdist_of
distance_fits p q =
    add-fits binary32 (square (sub binary32 p.l q.l))
    (mul binary32 chroma (add binary32 (square (sub binary32 p.a q.a)) (square (sub binary32 p.b q.b))))

-- ---- the answer
-- the value where all is in range, and else 6
ranged_promised : (v : Float) (ranged : Bool) → Answered ((6 if not ranged) ∷ []) v (answer v (first_reply ((6 if not ranged) ∷ [])))
ranged_promised v true = record { number = refl; answer = refl }
ranged_promised v false = record { number = refl; answer = refl }

module _ (a b : Oklab) where
  pub distance_promised : {r : Result Float Refusal} → r ≡ distance_of a b → OklabSqdistAnswered a b r
  distance_promised e = subst (OklabSqdistAnswered a b) (sym e) (ranged_promised (sqdist_of a b) (all_in_range a && all_in_range b))

  pub distance_lowest : {r : Result Float Refusal} → OklabSqdistAnswered a b r → Lowest (distance_replies a b) (number_of r)
  distance_lowest p = answers_lowest _ _ _ tt p
