-- The nearest: distances of colours within range are finite, not negative and not -0, so `nearest_of` is the first of the least, and nothing else is.
-- On such values `<` is the order of the Rust's `total_cmp`: of two that are f32 values one is below the other, or they are the same data
-- (`distance_order`); NaN and -0, where the two orders differ, do not arise. Assumes nothing.
use mathlib.Core.Path.{◌≡◌}
use mathlib.Core.Logic.{◌⊎◌}
use Prim.Native.Nat.{ℕ, ◌<◌}
use lib.Dec.{T}
use lib.Ieee.{binary32, lt}
use Rattle.floats.specs.Bounds.{Upto}
use Rattle.floats.proofs.Order.{Plain, upto_plain, lt_asymmetric, nlt_trans, trichotomy}
use Rattle.lists.specs.Least.{Least, Comparison}
use Rattle.lists.proofs.LeastLaws.{least_is, least_only, least_inside}
use Rattle.color.specs.declared.Oklab.{Oklab}
use Rattle.color.specs.Oklab.{all_in_range, sqdist_of}
use Rattle.color.proofs.Distances.{all_in_range_lem, distance_upto, distance_fits}
use Rattle.shortlist.specs.Candidates.{Candidates}
use Rattle.shortlist.specs.Nearest.{distances, nearest_in, nearest_of}

-- `<` on values that are finite, not negative and not -0
pub by_lt : Comparison lt Plain
by_lt = record { asymmetric = lt_asymmetric; transitive = nlt_trans }

pub distance_plain : (p q : Oklab) → T (all_in_range p) → T (all_in_range q) → Plain (sqdist_of p q)
distance_plain p q P Q = upto_plain 112 (sqdist_of p q) (distance_upto p q (all_in_range_lem p P) (all_in_range_lem q Q))

-- one is below the other, or they are the same
pub distance_order : (o p q : Oklab) → T (all_in_range o) → T (all_in_range p) → T (all_in_range q)
    → T (lt (sqdist_of o p) (sqdist_of o q)) ⊎ ((sqdist_of o p ≡ sqdist_of o q) ⊎ T (lt (sqdist_of o q) (sqdist_of o p)))
distance_order o p q O P Q =
    trichotomy binary32 (sqdist_of o p) (sqdist_of o q) (distance_plain o p O P) (distance_plain o q O Q) (distance_fits o p) (distance_fits o q)

module _ (oklab : ℕ → Oklab) (n : ℕ) (range : (k : ℕ) → k < n → T (all_in_range (oklab k))) (o : Oklab) (O : T (all_in_range o)) where
  pub distances_upto : (k : ℕ) → k < n → Upto 112 (distances o oklab k)
  distances_upto k h = distance_upto o (oklab k) (all_in_range_lem o O) (all_in_range_lem (oklab k) (range k h))

  pub distances_plain : (k : ℕ) → k < n → Plain (distances o oklab k)
  distances_plain k h = upto_plain 112 (distances o oklab k) (distances_upto k h)

-- ---- no entry is nearer, and every earlier entry is farther
pub nearest_least : (cs : Candidates) (o : Oklab) → 0 < cs.count → ((k : ℕ) → k < cs.count → T (all_in_range (cs.oklab k))) → T (all_in_range o)
    → Least lt (distances o cs.oklab) cs.count (nearest_of cs o)
nearest_least cs o h range O = least_is by_lt cs.count h (distances_plain cs.oklab cs.count range o O)

-- and there is one such alone
pub nearest_only : (cs : Candidates) (o : Oklab) (r q : ℕ) → Least lt (distances o cs.oklab) cs.count r → Least lt (distances o cs.oklab) cs.count q
    → r ≡ q
nearest_only cs o r q = least_only

pub nearest_inside : (oklab : ℕ → Oklab) (n : ℕ) (o : Oklab) → 0 < n → nearest_in oklab n o < n
nearest_inside oklab n o h = least_inside lt (distances o oklab) n h
