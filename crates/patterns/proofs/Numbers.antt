-- The kinds by number: they are 0 to 10, the retired ones 5 and 6, the ordered ones 1 to 4, 7 and 8, Atkinson and Floyd-Steinberg are 9 and 10, and
-- there is none above. What holds of the ways of the eleven kinds, by a computed test, and where there is none, holds of every number. Assumes nothing.
use mathlib.Core.Path.{◌≡◌, refl, ap, ◌∙◌}
use mathlib.Core.Bool.{Bool, true, false, not, ◌&&◌, ◌||◌}
use mathlib.Core.List.{List, map}
use Prim.Native.Nat.{ℕ, ◌≤◌, ◌<◌}
use native.Mathlib.Omega.{arith}
use borrow.Author.Tests.{le-leb, lt-leb, ne_eqb}
use lib.Dec.{T, eqb, leb, ltb, ltb→lt, nltb→le}
use lib.ListN.{get_or-eq_default}
use Rattle.std.specs.Prelude.{Some, None}
use Rattle.patterns.specs.Kinds.{kinds, kind_of, Way, plain, ordered, diffused, retired, none, way_of}
use Rattle.patterns.specs.Kinds.{is_way, is_gone, has_matrix, has_kernel, is_kind, is_retired, is_ordered, is_diffusion}
use Rattle.lists.proofs.Computed.{from, agree}

pub kind_above : (k : ℕ) → 10 < k → kind_of k ≡ None
unfolding kind_of
kind_above k h = get_or-eq_default (map Some kinds) None {n = k} (omega arith)

pub way_above : (k : ℕ) → 10 < k → way_of k ≡ none
unfolding way_of
way_above k h = rw (kind_above k h)

-- what a way gives is told by the kind's number
pub by_number : {A : Type 0} (f : Way → A) (g : ℕ → A) → from (λ k. f (way_of k)) 0 11 ≡ from g 0 11 → ((k : ℕ) → 10 < k → f none ≡ g k) → (k : ℕ)
    → f (way_of k) ≡ g k
by_number f g e above k = go (ltb k 11) (ltb→lt k 11) (nltb→le k 11)
  where
    go : (b : Bool) → (T b → k < 11) → (T (not b) → 11 ≤ k) → f (way_of k) ≡ g k
    go true below past = agree (λ k. f (way_of k)) g 11 e k (below tt)
    go false below past = ap f (way_above k (past tt)) ∙ above k (past tt)

-- what holds of each kind's way, and of none, holds of every number's
pub of_all : (test : Way → Bool) → from (λ k. test (way_of k)) 0 11 ≡ from (λ k. true) 0 11 → test none ≡ true → (k : ℕ) → T (test (way_of k))
of_all test e above k = rw (by_number test (λ k. true) e (λ k h. above) k) tt

pub kind_is : (k : ℕ) → is_kind k ≡ leb k 10
unfolding is_kind way_of kind_of
kind_is k = by_number is_way (λ k. leb k 10) refl (λ k h. simp (lt-leb k 10 h)) k

pub retired_is : (k : ℕ) → is_retired k ≡ (eqb k 5 || eqb k 6)
unfolding is_retired way_of kind_of
retired_is k = by_number is_gone (λ k. eqb k 5 || eqb k 6) refl (λ k h. simp (ne_eqb k 5 (λ e. omega arith), ne_eqb k 6 (λ e. omega arith))) k

pub ordered_is : (k : ℕ) → is_ordered k ≡ ((leb 1 k && leb k 4) || (eqb k 7 || eqb k 8))
unfolding is_ordered way_of kind_of
ordered_is k =
    by_number has_matrix (λ k. (leb 1 k && leb k 4) || (eqb k 7 || eqb k 8)) refl
    (λ k h. simp (le-leb 1 k (omega arith), lt-leb k 4 (omega arith), ne_eqb k 7 (λ e. omega arith), ne_eqb k 8 (λ e. omega arith))) k

pub diffusion_is : (k : ℕ) → is_diffusion k ≡ (eqb k 9 || eqb k 10)
unfolding is_diffusion way_of kind_of
diffusion_is k = by_number has_kernel (λ k. eqb k 9 || eqb k 10) refl (λ k h. simp (ne_eqb k 9 (λ e. omega arith), ne_eqb k 10 (λ e. omega arith))) k

-- the way of a kind that has a matrix
pub ordered_way : (k : ℕ) → T (is_ordered k) → (m : List (List ℕ)) × (n : ℕ) × (way_of k ≡ ordered m n)
unfolding is_ordered
ordered_way k h = go (way_of k) h
  where
    go : (w : Way) → T (has_matrix w) → (m : List (List ℕ)) × (n : ℕ) × (w ≡ ordered m n)
    go plain h = absurd h
    go (ordered m n) h = (m, n, refl)
    go (diffused k l) h = absurd h
    go retired h = absurd h
    go none h = absurd h
