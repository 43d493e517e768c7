-- Rows of remembered shortlists: one found, one more, and none yet; and what shortlists hold. Assumes nothing.
use mathlib.Core.Path.{◌≡◌, refl, sym, ap, ◌∙◌, subst}
use mathlib.Core.Bool.{Bool, true, false}
use mathlib.Core.List.{List}
use Prim.Native.Nat.{ℕ, ◌-◌, ◌%◌, ◌≤◌, ◌<◌, min}
use native.Mathlib.Omega.{arith}
use native.Mathlib.Nat.{mod-eq_of_lt}
use borrow.Author.Tests.{eqb-true, eqb-false}
use lib.Dec.{T, eqb}
use lib.ListN.{length, get_or, set, take, length-take, replicate, get_or-replicate}
use lib.Seq.{get_or-set_same, get_or-set_other, get_or-take}
use Rattle.std.specs.Prelude.{Some, None}
use Rattle.std.proofs.lemmas.Grind.{same_number_lists}
use Rattle.lists.specs.Order.{In}
use Rattle.lists.proofs.OrderLaws.{in_at}
use Rattle.color.specs.declared.Oklab.{Oklab}
use Rattle.color.specs.Oklab.{all_in_range}
use Rattle.mixing.specs.Widths.{clamp_width}
use Rattle.shortlist.specs.Nearest.{distances}
use Rattle.shortlist.specs.Shortlist.{InArrays, shortlist_of}
use Rattle.shortlist.specs.declared.Shortlist.{Shortlist as Short}
use Rattle.shortlist.proofs.NearestLaws.{distances_plain}
use Rattle.shortlist.proofs.ShortlistLaws.{shortlist_is}
use Rattle.remembered.specs.declared.shorts.Row.{Row}
use Rattle.remembered.specs.declared.Memory.{Memory}
use Rattle.remembered.specs.Shorts.{shortlist_at, RowsOf}

-- ---- rows

-- what is left alone
pub rows_same : (f : ℕ → List ℕ) (was memory : Memory) → RowsOf f was → memory.rows ≡ was.rows → RowsOf f memory
rows_same f was memory shorts e = record { right = λ j a l any. rw e (shorts.right j a l any) }

-- no row yet
pub rows_none : (f : ℕ → List ℕ) (memory : Memory) → memory.rows ≡ replicate 128 (record { entry = None; positions = replicate 16 0 }) → RowsOf f memory
rows_none f memory m = record { right = λ j a l any e. absurd (none j a l any e) }
  where
    none : (j a : ℕ) → j < 128 → (any : Row) → (get_or memory.rows j any).entry ≡ Some a → ⊥
    none j a l any e = let n : (get_or memory.rows j any).entry ≡ None = rw m (ap (λ (x : Row). x.entry) (get_or-replicate 128 j _ any l)) in cc

-- a row more, entry a's
pub rows_more : (f : ℕ → List ℕ) (was memory : Memory) → RowsOf f was → (a j : ℕ) (row : Row) → j < length was.rows → row.entry ≡ Some a
    → take (length (f a)) row.positions ≡ f a → memory.rows ≡ set was.rows j row → RowsOf f memory
rows_more f was memory shorts a j row l k e m = record { right = λ i b h. go i b h (eqb i j) refl }
  where
    go : (i b : ℕ) → i < 128 → (t : Bool) → eqb i j ≡ t → (any : Row) → (get_or memory.rows i any).entry ≡ Some b
        → take (length (f b)) (get_or memory.rows i any).positions ≡ f b
    go i b h true t any own =
        let q : i ≡ j = eqb-true i j t in
        let here : get_or memory.rows i any ≡ row = rw (m, q, get_or-set_same) refl in
        let same : Some a ≡ Some b = sym k ∙ sym (ap (λ (x : Row). x.entry) here) ∙ own in
        let ab : a ≡ b = cc in
        subst (λ (n : ℕ). take (length (f n)) (get_or memory.rows i any).positions ≡ f n) ab
        (ap (λ (x : Row). take (length (f a)) x.positions) here ∙ e)
    go i b h false t any own =
        let n : i ≡ j → ⊥ = eqb-false i j t in
        let there : get_or memory.rows i any ≡ get_or was.rows i any = rw (m, get_or-set_other) refl in
        ap (λ (x : Row). take (length (f b)) x.positions) there ∙ shorts.right i b h any (ap (λ (x : Row). x.entry) (sym there) ∙ own)

-- the shortlist of positions below 65,536 in a row, as it begins
pub narrowed : (s : Short) (positions js : List ℕ) → s.count ≤ 16 → length positions ≡ 16 → take s.count s.positions ≡ js → s.count ≡ length js
    → ((i : ℕ) → i < s.count → get_or s.positions i 0 < 65536) → ((i : ℕ) → i < 16 → get_or positions i 0 ≡ get_or s.positions i 0 % 65536)
    → take (length js) positions ≡ js
narrowed s positions js few room p n low each = same_number_lists (take (length js) positions) js (omega (arith, length-take (length js) positions)) each_of
  where
    each_of : (k : ℕ) → k < length (take (length js) positions) → get_or (take (length js) positions) k 0 ≡ get_or js k 0
    each_of k l =
        let h : k < s.count = omega (arith, length-take (length js) positions) in
        let g : k < length js = omega arith in
        let i : k < 16 = omega arith in
        get_or-take (length js) positions k 0 g ∙ each k i ∙ mod-eq_of_lt (low k h) ∙ sym (get_or-take s.count s.positions k 0 h)
        ∙ ap (λ (ps : List ℕ). get_or ps k 0) p

-- ---- shortlists
module _ (oklab : ℕ → Oklab) (n width : ℕ) (range : (k : ℕ) → k < n → T (all_in_range (oklab k))) (a : ℕ) (inside : a < n) where
  -- how many there are
  pub short_length : length (shortlist_at oklab n width a) ≡ min (clamp_width width) (n - 1)
  unfolding shortlist_at
  short_length = (shortlist_is (distances (oklab a) oklab) a n (distances_plain oklab n range (oklab a) (range a inside)) inside width).size

  -- its positions are entries, and so are those that the code holds
  pub short_inside : (ks : List ℕ) → ks ≡ shortlist_at oklab n width a → (i : ℕ) → i < length ks → get_or ks i 0 < n
  unfolding shortlist_at
  short_inside ks e i l =
      ((shortlist_is (distances (oklab a) oklab) a n (distances_plain oklab n range (oklab a) (range a inside)) inside width).sound (get_or ks i 0)
      (subst (λ (xs : List ℕ). In (get_or ks i 0) xs) e (in_at 0 ks i l))).0

  pub short_below : (s : Short) → InArrays (distances (oklab a) oklab) s (shortlist_of (distances (oklab a) oklab) a n width) → (i : ℕ) → i < s.count
      → get_or s.positions i 0 < n
  unfolding shortlist_at
  short_below s h i l =
      let long : length (take s.count s.positions) ≡ s.count = ap length h.places ∙ sym h.count in
      let r : i < length (take s.count s.positions) = omega arith in
      subst (λ (u : ℕ). u < n) (get_or-take s.count s.positions i 0 l) (short_inside (take s.count s.positions) h.places i r)
