-- Records taken apart: the flat lists of a list of records are the same candidates, with the same number. Assumes nothing.
use mathlib.Core.Path.{◌≡◌, refl, sym, ap, ◌∙◌, subst}
use mathlib.Core.Logic.{◌⊎◌, inl, inr}
use mathlib.Core.List.{List}
use mathlib.Core.Bool.{Bool, true, false, not, ◌&&◌}
use Prim.Native.Nat.{ℕ, zero, suc, ◌+◌, ◌*◌, ◌/◌, ◌%◌, ◌≤◌, ◌<◌}
use native.Mathlib.Omega.{arith}
use borrow.Author.Tests.{eq-eqb, ltb-true, ltb-false}
use lib.Dec.{T, T_not, not_T, ltb}
use lib.ListN.{length, get_or, get_or-eq_default}
use lib.Ieee.{Float, nan}
use lib.Ieee.Fits.{and_l, and_r, and_i}
use Rattle.lists.specs.Gather.{gather}
use Rattle.lists.specs.First.{first_that}
use Rattle.lists.proofs.Bools.{is_true, is_false}
use Rattle.lists.proofs.FirstLaws.{first_is}
use Rattle.lists.proofs.GatherLaws.{gather-length, gather_at}
use Rattle.color.specs.declared.CandidateColor.{CandidateColor}
use Rattle.color.specs.declared.Rgba8888.{Rgba8888}
use Rattle.color.specs.declared.Oklab.{Oklab}
use Rattle.color.specs.Color.{rgba, rgba_at, reduced_at, normalized_at, bytes_of}
use Rattle.color.specs.Oklab.{in_range, all_in_range, oklab_at, floats_of}
use Rattle.shortlist.specs.Candidates.{flat}
use Rattle.lookup.specs.Lists.{lengths_fit, first_outside, list_number}
use Rattle.records.specs.Lists.{no_record, record_at, candidates_of, ranged_to, number_by, records_number}
use Rattle.records.specs.Lists.{reduced_piece, normalized_piece, oklab_piece, reduced_bytes, normalized_bytes, oklab_floats}
use Rattle.records.proofs.ListLaws.{ranged_all, all_ranged}

-- ---- flat lists give every colour back, and nothing beyond the last
inside_or_beyond : (k n : ℕ) → (k < n) ⊎ (n ≤ k)
inside_or_beyond k n = go (ltb k n) refl
  where
    go : (t : Bool) → ltb k n ≡ t → (k < n) ⊎ (n ≤ k)
    go true e = inl (ltb-true k n e)
    go false e = inr (ltb-false k n e)

-- four bytes of a piece, or none
module _ (n : ℕ) (color : ℕ → Rgba8888) where
  bytes_at : (k j : ℕ) → k < n → j < 4 → get_or (gather n (λ i. bytes_of (color i))) (4 * k + j) 0 ≡ get_or (bytes_of (color k)) j 0
  bytes_at k j = gather_at 4 (λ i. bytes_of (color i)) (λ i. refl) 0 n k j

  pub rgba-inside : (k : ℕ) → k < n → rgba_at (gather n (λ i. bytes_of (color i))) k ≡ color k
  unfolding rgba_at
  rgba-inside k h =
      let r : get_or (gather n (λ i. bytes_of (color i))) (4 * k) 0 ≡ (color k).r = ap (λ (m : ℕ). get_or (gather n (λ i. bytes_of (color i))) m 0) (plus (4 * k))
      ∙ bytes_at k 0 h (omega arith) in
      let g = bytes_at k 1 h (omega arith) in
      let b = bytes_at k 2 h (omega arith) in
      let a = bytes_at k 3 h (omega arith) in
      λ i. record { r = r i; g = g i; b = b i; a = a i }
    where
      plus : (m : ℕ) → m ≡ m + 0
      plus m = omega arith

  pub rgba_beyond : (k : ℕ) → n ≤ k → rgba_at (gather n (λ i. bytes_of (color i))) k ≡ rgba 0 0 0 0
  unfolding rgba_at
  rgba_beyond k h =
      let l : length (gather n (λ i. bytes_of (color i))) ≡ 4 * n = gather-length 4 (λ i. bytes_of (color i)) (λ i. refl) n in
      let none : (m : ℕ) → 4 * k ≤ m → get_or (gather n (λ i. bytes_of (color i))) m 0 ≡ 0 = λ m q. get_or-eq_default (gather n (λ i. bytes_of (color i))) 0 {n =
      m} (omega (arith, l)) in
      let r = none (4 * k) (omega arith) in
      let g = none (4 * k + 1) (omega arith) in
      let b = none (4 * k + 2) (omega arith) in
      let a = none (4 * k + 3) (omega arith) in
      λ i. record { r = r i; g = g i; b = b i; a = a i }

module _ (list : List CandidateColor) where
  abbrev n : ℕ
  n = length list

  none_at : (k : ℕ) → n ≤ k → no_record ≡ record_at list k
  none_at k h = sym (get_or-eq_default list no_record {n = k} h)

  reduced_at_lem : (k : ℕ) → reduced_at (reduced_bytes list) k ≡ (record_at list k).reduced
  reduced_at_lem k = elim (inside_or_beyond k n) [
    | inl h ↦ (λ i. record { 0 = rgba-inside n (λ j. (record_at list j).reduced.0) k h i })
    | inr h ↦ (λ i. record { 0 = rgba_beyond n (λ j. (record_at list j).reduced.0) k h i }) ∙ ap (λ (c : CandidateColor). c.reduced) (none_at k h)
  ]

  normalized_at_lem : (k : ℕ) → normalized_at (normalized_bytes list) k ≡ (record_at list k).normalized
  normalized_at_lem k = elim (inside_or_beyond k n) [
    | inl h ↦ (λ i. record { 0 = rgba-inside n (λ j. (record_at list j).normalized.0) k h i })
    | inr h ↦ (λ i. record { 0 = rgba_beyond n (λ j. (record_at list j).normalized.0) k h i }) ∙ ap (λ (c : CandidateColor). c.normalized) (none_at k h)
  ]

  floats_long : length (oklab_floats list) ≡ 3 * n
  floats_long = gather-length 3 (oklab_piece list) (λ i. refl) n

  floats_at : (k j : ℕ) → k < n → j < 3 → get_or (oklab_floats list) (3 * k + j) nan ≡ get_or (oklab_piece list k) j nan
  floats_at k j = gather_at 3 (oklab_piece list) (λ i. refl) nan n k j

  oklab_inside : (k : ℕ) → k < n → oklab_at (oklab_floats list) k ≡ (record_at list k).oklab
  unfolding oklab_at
  oklab_inside k h =
      let l : get_or (oklab_floats list) (3 * k) nan ≡ (record_at list k).oklab.l = ap (λ (m : ℕ). get_or (oklab_floats list) m nan) (plus (3 * k))
      ∙ floats_at k 0 h (omega arith) in
      let a = floats_at k 1 h (omega arith) in
      let b = floats_at k 2 h (omega arith) in
      λ i. record { l = l i; a = a i; b = b i }
    where
      plus : (m : ℕ) → m ≡ m + 0
      plus m = omega arith

  oklab_beyond : (k : ℕ) → n ≤ k → oklab_at (oklab_floats list) k ≡ no_record.oklab
  unfolding oklab_at
  oklab_beyond k h =
      let none : (m : ℕ) → 3 * k ≤ m → get_or (oklab_floats list) m nan ≡ nan = λ m q. get_or-eq_default (oklab_floats list) nan {n = m}
      (omega (arith, floats_long)) in
      let l = none (3 * k) (omega arith) in
      let a = none (3 * k + 1) (omega arith) in
      let b = none (3 * k + 2) (omega arith) in
      λ i. record { l = l i; a = a i; b = b i }

  oklab_at_lem : (k : ℕ) → oklab_at (oklab_floats list) k ≡ (record_at list k).oklab
  oklab_at_lem k = elim (inside_or_beyond k n) [
    | inl h ↦ oklab_inside k h
    | inr h ↦ oklab_beyond k h ∙ ap (λ (c : CandidateColor). c.oklab) (none_at k h)
  ]

  bytes_long : length (reduced_bytes list) ≡ 4 * n
  bytes_long = gather-length 4 (reduced_piece list) (λ i. refl) n

  quarter : length (reduced_bytes list) / 4 ≡ n
  quarter = omega (arith, bytes_long)

  -- the same candidates
  pub flat_is : flat (reduced_bytes list) (normalized_bytes list) (oklab_floats list) ≡ candidates_of list
  flat_is = λ i. record { count = quarter i; reduced = λ k. reduced_at_lem k i; normalized = λ k. normalized_at_lem k i; oklab = λ k. oklab_at_lem k i }

  -- ---- the same number
  fit : lengths_fit (length (reduced_bytes list)) (length (normalized_bytes list)) (length (oklab_floats list)) ≡ true
  unfolding lengths_fit
  fit =
      let same : length (normalized_bytes list) ≡ length (reduced_bytes list) = gather-length 4 (normalized_piece list) (λ i. refl) n ∙ sym bytes_long in
      rw (
        eq-eqb (length (reduced_bytes list) % 4) 0 (omega (arith, bytes_long)),
        eq-eqb _ _ same,
        eq-eqb (length (oklab_floats list))
            (3 * (length (reduced_bytes list) / 4)) (omega (arith, floats_long, quarter)),
      )

  -- a component of a record in range
  component : (p : Oklab) (j : ℕ) → T (all_in_range p) → j < 3 → T (in_range (get_or (floats_of p) j nan))
  unfolding all_in_range
  component p zero r h = and_l (in_range p.l) (in_range p.a && in_range p.b) r
  component p (suc zero) r h = and_l (in_range p.a) (in_range p.b) (and_r (in_range p.l) (in_range p.a && in_range p.b) r)
  component p (suc (suc zero)) r h = and_r (in_range p.a) (in_range p.b) (and_r (in_range p.l) (in_range p.a && in_range p.b) r)
  component p (suc (suc (suc j))) r h = absurd (omega arith)

  abbrev outside : ℕ → Bool
  outside k = not (in_range (get_or (oklab_floats list) k nan))

  -- none is outside: every record is in range
  all_inside : (3 * n ≤ first_that outside (length (oklab_floats list))) → T (ranged_to list n)
  unfolding all_in_range
  all_inside h =
      let f = first_is outside (length (oklab_floats list)) in
      let inside : (k j : ℕ) → k < n → j < 3 → T (in_range (get_or (oklab_piece list k) j nan)) = λ k j l q.
      subst (λ (x : Float). T (in_range x)) (floats_at k j l q)
      (twice (in_range (get_or (oklab_floats list) (3 * k + j) nan)) (f.before (3 * k + j) (omega arith))) in
      all_ranged list n (λ k l. and_i (in_range (record_at list k).oklab.l) _ (inside k 0 l (omega arith))
      (and_i (in_range (record_at list k).oklab.a) (in_range (record_at list k).oklab.b) (inside k 1 l (omega arith)) (inside k 2 l (omega arith))))
    where
      twice : (t : Bool) → T (not (not t)) → T t
      twice true h = tt
      twice false h = h

  -- one is outside: its record is not
  one_outside : first_that outside (length (oklab_floats list)) < length (oklab_floats list) → T (ranged_to list n) → ⊥
  one_outside h r =
      let f = first_is outside (length (oklab_floats list)) in
      let m : ℕ = first_that outside (length (oklab_floats list)) in
      let k : m / 3 < n = omega (arith, floats_long) in
      let j : m % 3 < 3 = omega arith in
      let at : 3 * (m / 3) + m % 3 ≡ m = omega arith in
      T_not (in_range (get_or (oklab_floats list) m nan)) (f.passes h)
      (subst (λ (i : ℕ). T (in_range (get_or (oklab_floats list) i nan))) at
      (subst (λ (x : Float). T (in_range x)) (sym (floats_at (m / 3) (m % 3) k j))
      (component (record_at list (m / 3)).oklab (m % 3) (ranged_all list n r (m / 3) k) j)))

  range_agrees : ltb (first_outside (oklab_floats list)) (length (oklab_floats list)) ≡ not (ranged_to list n)
  unfolding first_outside
  range_agrees = go (ltb (first_that outside (length (oklab_floats list))) (length (oklab_floats list))) refl
    where
      go : (t : Bool) → ltb (first_that outside (length (oklab_floats list))) (length (oklab_floats list)) ≡ t → t ≡ not (ranged_to list n)
      go true e = ap not (sym (is_false (ranged_to list n) (not_T (ranged_to list n) (one_outside (ltb-true _ _ e)))))
      go false e =
          let past : length (oklab_floats list) ≤ first_that outside (length (oklab_floats list)) = ltb-false _ _ e in
          ap not (sym (is_true (ranged_to list n) (all_inside (omega (arith, floats_long, past)))))

  pub number_agrees : list_number (reduced_bytes list) (normalized_bytes list) (oklab_floats list) ≡ records_number list
  unfolding list_number number_by
  number_agrees = rw (fit, quarter, range_agrees)
