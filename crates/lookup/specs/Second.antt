-- The second colour of an ordered dither. Definitions only.
-- Written from document 01, "Choosing colours": "Among those whose unclamped `lerp` is from 0 to 1, take the smallest `mix_residual`, first of
-- equals. If none, the shortlist's first. With one candidate there is no second."
use Rattle.std.specs.Prelude.{ℕ, ◌≡◌, List, [], ◌∷◌, Option, Some, None, Bool, true, cond, ◌&&◌, length, get_or, Float}
use Rattle.std.specs.Float.Ieee.{lt}
use Rattle.lists.specs.Least.{least_of, Least}
use Rattle.color.specs.declared.NormalizedColor.{NormalizedColor}
use Rattle.color.specs.declared.Oklab.{Oklab}
use Rattle.mixing.specs.Lerp.{share_of, between, mix_residual}
use Rattle.mixing.specs.Widths.{clamp_width}
use Rattle.shortlist.specs.Candidates.{Candidates}
use Rattle.shortlist.specs.Nearest.{distances, nearest_of}
use Rattle.shortlist.specs.Shortlist.{shortlist_of, Shortlist}
use Rattle.lookup.specs.declared.Two.{Two}
use Rattle.lookup.specs.declared.seconds.Mix.{Mix}

-- those of a list that pass a test
abbrev pub those : (ℕ → Bool) → List ℕ → List ℕ
those p [] = []
those p (k ∷ ks) = cond (p k) (k ∷ those p ks) (those p ks)

-- the first of those of a list whose value is least
unfoldable pub least_among : (ℕ → Float) → List ℕ → ℕ
least_among e ks = get_or ks (least_of lt (λ j. e (get_or ks j 0)) (length ks)) 0

-- among those that pass the first of the least; if none does, the first of all; of none nothing
abbrev pub second_in : (ℕ → Float) → List ℕ → List ℕ → Option ℕ
second_in e (k ∷ passing) ks = Some (least_among e (k ∷ passing))
second_in e [] (k ∷ ks) = Some k
second_in e [] [] = None

abbrev pub second_of : (ℕ → Bool) → (ℕ → Float) → List ℕ → Option ℕ
second_of p e ks = second_in e (those p ks) ks

-- s is the second, of those that pass and of the whole list: what `second_in` is, and all that it is (proofs/SecondLaws)
abbrev pub IsSecondIn : (ℕ → Float) → List ℕ → List ℕ → Option ℕ → Type 0
IsSecondIn e (k ∷ passing) ks s =
    (r : ℕ) × Least lt (λ (j : ℕ). e (get_or (k ∷ passing) j 0)) (length (k ∷ passing)) r × (s ≡ Some (get_or (k ∷ passing) r 0))
IsSecondIn e [] (k ∷ ks) s = s ≡ Some k
IsSecondIn e [] [] s = s ≡ None

-- whether the unclamped `lerp` from entry a to entry k is from 0 to 1, and the residual of that mix
abbrev pub mixable : (ℕ → NormalizedColor) → ℕ → NormalizedColor → ℕ → Bool
mixable normalized a c k = between (share_of (normalized a) (normalized k) c)

abbrev pub mix_error : (ℕ → NormalizedColor) → ℕ → NormalizedColor → ℕ → Float
mix_error normalized a c k = mix_residual (normalized a) (normalized k) (share_of (normalized a) (normalized k) c) c

-- the second beside entry a, of a shortlist
abbrev pub second_beside : (ℕ → NormalizedColor) → ℕ → NormalizedColor → List ℕ → Option ℕ
second_beside normalized a c ks = second_of (mixable normalized a c) (mix_error normalized a c) ks

abbrev pub second_to : Candidates → ℕ → NormalizedColor → ℕ → Option ℕ
second_to cs width c a = second_beside cs.normalized a c (shortlist_of (distances (cs.oklab a) cs.oklab) a cs.count width)

-- the nearest and the second, of a colour c that is o in Oklab
unfoldable pub nearest_two_of : Candidates → ℕ → Oklab → NormalizedColor → Two
nearest_two_of cs width o c = record { first = nearest_of cs o; second = second_to cs width c (nearest_of cs o) }

-- ---- what the nearest two are

-- the first is the first of the least distances. Of its shortlist, the width nearest of the others, the second is, among those whose unclamped `lerp` is
-- from 0 to 1, the first of the least residuals; where there is none such, the shortlist's first; and where the list has one entry alone, nothing.
-- What `nearest_two_of` is, and all that it is (proofs/TwoLaws)
pub record NearestTwo (cs : Candidates) (width : ℕ) (o : Oklab) (c : NormalizedColor) (t : Two) : Type 0 where
  pub nearest : Least lt (distances o cs.oklab) cs.count t.first
  pub others : List ℕ
  pub shortlist : Shortlist (distances (cs.oklab t.first) cs.oklab) t.first cs.count (clamp_width width) others
  pub beside : IsSecondIn (mix_error cs.normalized t.first c) (those (mixable cs.normalized t.first c) others) others t.second

-- ---- how the code holds the best so far

-- best is the first of the least among these, or nothing where there are none
abbrev pub Held : (ℕ → Float) → Option Mix → List ℕ → Type 0
Held e best [] = best ≡ None
Held e best (k ∷ ks) = best ≡ Some (record { error = e (least_among e (k ∷ ks)); position = least_among e (k ∷ ks) })

-- best is that of the entries of ks that mix with entry a, if one does
abbrev pub BestBeside : (ℕ → NormalizedColor) → ℕ → NormalizedColor → List ℕ → Option Mix → Type 0
BestBeside normalized a c ks best = Held (mix_error normalized a c) best (those (mixable normalized a c) ks)

-- whether an error is below the best's, if there is a best
abbrev pub is_below : Option Mix → Float → Bool
is_below None error = true
is_below (Some best) error = lt error best.error

-- k with its error, where it mixes, and there is no best yet or its error is below the best's
unfoldable pub improved : Option Mix → ℕ → Bool → Float → Option Mix
improved best k mixes error = cond (mixes && is_below best error) (Some (record { error = error; position = k })) best

-- entry k's turn: it counts where its share is from 0 to 1
unfoldable pub weighed : Option Mix → ℕ → NormalizedColor → NormalizedColor → NormalizedColor → Option Mix
weighed best k c1 c2 c = improved best k (between (share_of c1 c2 c)) (mix_residual c1 c2 (share_of c1 c2 c) c)
