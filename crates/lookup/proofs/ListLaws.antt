-- Flat lists: an accepted one has from 1 to 65,536 entries, bytes and floats for all of them, and every component from -2 to 2 (`accepted`); how the
-- components are looked at (`looked_all`). Assumes nothing.
use mathlib.Core.Path.{◌≡◌, refl, sym}
use mathlib.Core.List.{List}
use mathlib.Core.Bool.{Bool, true, false, not, ◌&&◌, ◌||◌}
use Prim.Native.Nat.{ℕ, ◌+◌, ◌*◌, ◌/◌, ◌%◌, ◌≤◌, ◌<◌}
use native.Mathlib.Nat.{not-suc-le-zero, le_refl}
use native.Mathlib.Omega.{arith}
use borrow.Author.Count.{below_more}
use borrow.Author.Tests.{eqb-true, ltb-true, ltb-false, lt-ltb, le-ltb, not-true, not-false}
use lib.Dec.{T, eqb, ltb}
use lib.ListN.{length, get_or}
use lib.Ieee.{Float, nan}
use lib.Ieee.Fits.{and_i}
use Rattle.lists.specs.First.{first_that}
use Rattle.lists.proofs.Bools.{and_split, holds, fails, clash}
use Rattle.lists.proofs.FirstLaws.{first_is, first_below, search_missed}
use Rattle.replies.proofs.ReplyLaws.{reply_none}
use Rattle.color.specs.Oklab.{in_range, all_in_range, oklab_at}
use Rattle.shortlist.specs.Candidates.{RangedList}
use Rattle.lookup.specs.Lists.{lengths_fit, count_fits, first_outside, inside_at, Looked, list_replies, list_number}

-- ---- an accepted list
pub record Accepted (reduced normalized : List ℕ) (oklab : List Float) : Type 0 where
  pub positive : 0 < length reduced / 4
  pub few : length reduced / 4 ≤ 65536
  pub bytes : 4 * (length reduced / 4) ≡ length reduced
  pub same : length normalized ≡ length reduced
  pub ranged : RangedList oklab (length reduced / 4)

twice : (t : Bool) → T (not (not t)) → T t
twice true h = tt
twice false h = h

fitting : (r n o : ℕ) → lengths_fit r n o ≡ true → (r % 4 ≡ 0) × (n ≡ r) × (o ≡ 3 * (r / 4))
unfolding lengths_fit
fitting r n o e =
    let a = and_split (eqb (r % 4) 0) (eqb n r && eqb o (3 * (r / 4))) e in
    let b = and_split (eqb n r) (eqb o (3 * (r / 4))) a.1 in
    (eqb-true (r % 4) 0 a.0, eqb-true n r b.0, eqb-true o (3 * (r / 4)) b.1)

pub counted : (n : ℕ) → count_fits n ≡ true → (0 < n) × (n ≤ 65536)
unfolding count_fits
counted n e = let a = and_split (ltb 0 n) (not (ltb 65536 n)) e in (ltb-true 0 n a.0, ltb-false 65536 n (not-true (ltb 65536 n) a.1))

inside : (xs : List Float) → ltb (first_outside xs) (length xs) ≡ false → (k : ℕ) → k < length xs → T (in_range (get_or xs k nan))
unfolding first_outside
inside xs e k h =
    let f = first_is (λ j. not (in_range (get_or xs j nan))) (length xs) in
    let l : length xs ≤ first_that (λ j. not (in_range (get_or xs j nan))) (length xs) =
    ltb-false (first_that (λ j. not (in_range (get_or xs j nan))) (length xs)) (length xs) e in
    twice (in_range (get_or xs k nan)) (f.before k (omega arith))

pub accepted : (reduced normalized : List ℕ) (oklab : List Float) → list_number reduced normalized oklab ≡ 0 → Accepted reduced normalized oklab
unfolding list_number all_in_range oklab_at
accepted reduced normalized oklab e =
    let a = reply_none (list_replies reduced normalized oklab) tt e in
    let l = fitting (length reduced) (length normalized) (length oklab) (not-false (lengths_fit (length reduced) (length normalized) (length oklab)) a.0) in
    let n = counted (length reduced / 4) (not-false (count_fits (length reduced / 4)) a.1.0) in
    let c = inside oklab a.1.1.0 in
    record {
      positive = n.0;
      few = n.1;
      bytes = omega (arith, l.0);
      same = l.1;
      ranged = record {
        long = omega (arith, l.2);
        range = λ k h. and_i (in_range (get_or oklab (3 * k) nan)) _ (c (3 * k) (omega (arith, l.2)))
            (and_i (in_range (get_or oklab (3 * k + 1) nan)) (in_range (get_or oklab (3 * k + 2) nan)) (c (3 * k + 1) (omega (arith, l.2)))
            (c (3 * k + 2) (omega (arith, l.2))));
      };
    }

-- ---- how the components are looked at
pub looked_none : (xs : List Float) → Looked xs 0 false
looked_none xs = record { some = λ e. absurd (clash e refl); none = λ e k h. absurd (not-suc-le-zero h) }

pub looked_more : (xs : List Float) (i : ℕ) (t : Bool) → Looked xs i t → Looked xs (i + 1) (t || not (inside_at xs i))
looked_more xs i true h = record { some = λ e. let o = h.some refl in (o.0, omega (arith, o.1), o.2); none = λ e. absurd (clash refl e) }
looked_more xs i false h = go (not (inside_at xs i)) refl
  where
    go : (b : Bool) → not (inside_at xs i) ≡ b → Looked xs (i + 1) b
    go true e = record { some = λ _. (i, omega arith, holds e); none = λ q. absurd (clash refl q) }
    go false e = record { some = λ q. absurd (clash q refl); none = λ _. below_more (λ (k : ℕ). T (not (not (inside_at xs k)))) i (h.none refl) (fails e) }

-- one outside among the first i is one of all
pub looked_some : (xs : List Float) (i : ℕ) → i ≤ length xs → Looked xs i true → true ≡ ltb (first_outside xs) (length xs)
unfolding first_outside
looked_some xs i w h =
    let test : ℕ → Bool = λ k. not (inside_at xs k) in
    let o = h.some refl in
    let l : first_that test (length xs) ≤ o.0 = first_below (first_is test (length xs)) o.0 o.2 in
    sym (lt-ltb (first_that test (length xs)) (length xs) (omega (arith, l, o.1, w)))

pub looked_all : (xs : List Float) (t : Bool) → Looked xs (length xs) t → t ≡ ltb (first_outside xs) (length xs)
unfolding first_outside
looked_all xs true h = looked_some xs (length xs) (le_refl (length xs)) h
looked_all xs false h =
    let test : ℕ → Bool = λ k. not (inside_at xs k) in
    let n : ℕ = length xs in
    let m : n ≡ first_that test n = search_missed (record { within = le_refl n; none = h.none refl }) (le_refl n) in
    sym (le-ltb (first_that test n) n (omega (arith, m)))
