-- Lists of records: a list in range has every record in range; an accepted list has from 1 to 65,536 records, all in range. Assumes nothing.
use mathlib.Core.Path.{◌≡◌, sym, subst}
use mathlib.Core.Logic.{inl, inr}
use mathlib.Core.List.{List}
use mathlib.Core.Bool.{Bool}
use Prim.Native.Nat.{ℕ, zero, suc, ◌≤◌, ◌<◌}
use native.Mathlib.Nat.{le_of_suc-le-suc, not-suc-le-zero, eq-or-lt_of_le}
use native.Mathlib.Omega.{arith}
use borrow.Author.Tests.{not-false}
use lib.Dec.{T}
use lib.ListN.{length}
use lib.Ieee.Fits.{and_l, and_r, and_i}
use Rattle.std.specs.Bool.{Decides}
use Rattle.std.specs.Prelude.{EachIndex, IsTrue}
use Rattle.std.proofs.lemmas.Bool.Decides.{same_from_decides}
use Rattle.lists.proofs.Bools.{holds, is_true}
use Rattle.replies.proofs.ReplyLaws.{reply_none}
use Rattle.color.specs.declared.CandidateColor.{CandidateColor}
use Rattle.color.specs.Oklab.{all_in_range}
use Rattle.lookup.specs.Lists.{count_fits}
use Rattle.lookup.proofs.ListLaws.{counted}
use Rattle.records.specs.Lists.{record_at, ranged_to, record_replies, number_by, records_number}

-- ---- in range
pub ranged_all : (list : List CandidateColor) (n : ℕ) → T (ranged_to list n) → (k : ℕ) → k < n → T (all_in_range (record_at list k).oklab)
ranged_all list zero r k h = absurd (not-suc-le-zero h)
ranged_all list (suc n) r k h = elim (eq-or-lt_of_le (le_of_suc-le-suc h)) [
  | inl e ↦ subst (λ (j : ℕ). T (all_in_range (record_at list j).oklab)) (sym e) (and_r (ranged_to list n) (all_in_range (record_at list n).oklab) r)
  | inr l ↦ ranged_all list n (and_l (ranged_to list n) (all_in_range (record_at list n).oklab) r) k l
]

pub all_ranged : (list : List CandidateColor) (n : ℕ) → ((k : ℕ) → k < n → T (all_in_range (record_at list k).oklab)) → T (ranged_to list n)
all_ranged list zero h = tt
all_ranged list (suc n) h = and_i (ranged_to list n) (all_in_range (record_at list n).oklab) (all_ranged list n (λ k l. h k (omega arith))) (h n (omega arith))

-- a test of each record is the test of the list
pub ranged_is : (list : List CandidateColor) (b : Bool) → Decides b (EachIndex list (λ k. IsTrue (all_in_range (record_at list k).oklab)))
    → b ≡ ranged_to list (length list)
ranged_is list b h =
    same_from_decides b (ranged_to list (length list)) h (
      λ r k l. is_true (all_in_range (record_at list k).oklab) (ranged_all list (length list) (holds r) k l),
      λ each. is_true (ranged_to list (length list)) (all_ranged list (length list) (λ k l. holds (each k l))),
    )

-- ---- accepted
pub record Accepted (list : List CandidateColor) : Type 0 where
  pub positive : 0 < length list
  pub few : length list ≤ 65536
  pub ranged : T (ranged_to list (length list))
  pub range : (k : ℕ) → k < length list → T (all_in_range (record_at list k).oklab)

pub accepted : (list : List CandidateColor) → records_number list ≡ 0 → Accepted list
unfolding number_by
accepted list e =
    let a = reply_none (record_replies list) tt e in
    let n = counted (length list) (not-false (count_fits (length list)) a.0) in
    let r : T (ranged_to list (length list)) = holds (not-false (ranged_to list (length list)) a.1.0) in
    record { positive = n.0; few = n.1; ranged = r; range = ranged_all list (length list) r }
