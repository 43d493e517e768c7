-- The collected candidates: what is known where they have places (`collected`) and where they are too many (`uncollected`); the fronts of the
-- rooms are their bytes and their Oklab (`roomed`); and where a pixel is not skipped, there is a candidate (`some_candidate`). Assumes nothing.
use mathlib.Core.Path.{◌≡◌, refl, sym, ◌∙◌, ap}
use mathlib.Core.Bool.{Bool, true, false, cond}
use mathlib.Core.List.{List, [], ◌∷◌}
use Prim.Native.Nat.{ℕ, ◌*◌, ◌/◌, ◌≤◌, ◌<◌}
use native.Mathlib.Omega.{arith}
use borrow.Author.Tests.{ltb-false}
use lib.ListN.{length, get_or, take, replicate}
use lib.Ieee.{Float}
use Rattle.lists.specs.Order.{In}
use Rattle.lists.proofs.GatherLaws.{filled-length, filled_front}
use Rattle.color.specs.declared.ReducedColor.{ReducedColor}
use Rattle.color.specs.Color.{bytes_of}
use Rattle.reducing.specs.declared.Reducing.{Reducing}
use Rattle.picture.specs.Pixels.{reduced_by}
use Rattle.picture.proofs.PixelLaws.{reduced_solid}
use Rattle.conversion.specs.Lists.{oklab_floats}
use Rattle.conversion.proofs.ListLaws.{list_front}
use Rattle.std.specs.Prelude.{Option, Some, None}
use Rattle.drawing.specs.Lent.{is_skipped}
use Rattle.drawing.proofs.FinishedLaws.{drawn_seen}
use Rattle.candidates.specs.Candidates.{candidates_of}
use Rattle.candidates.specs.Rooms.{candidate_at, places_with, oklab_with, too_many, Collects}
use Rattle.candidates.proofs.CandidateLaws.{candidates_is}
use Rattle.dither.specs.Mode.{Commission, candidate_list, candidate_bytes}
use Rattle.dither.specs.Steps.{Roomed}

-- ---- the answer of the collecting
module _ {cs : List ReducedColor} {scale was now : List ℕ} {oklab oklab' : List Float} {r : Option ℕ} (p : Collects cs scale was oklab r now oklab') where
  pub collected : (count : ℕ) → r ≡ Some count
      → (too_many cs was ≡ false) × (count ≡ length cs) × (now ≡ places_with cs was) × (oklab' ≡ oklab_with scale cs oklab)
  collected count q = go (too_many cs was) refl (sym q ∙ p.answer) p.bytes p.floats
    where
      go : (t : Bool) → too_many cs was ≡ t → Some count ≡ cond t None (Some (length cs)) → now ≡ cond t (replicate (length was) 0) (places_with cs was)
          → oklab' ≡ cond t oklab (oklab_with scale cs oklab)
          → (too_many cs was ≡ false) × (count ≡ length cs) × (now ≡ places_with cs was) × (oklab' ≡ oklab_with scale cs oklab)
      go true t e b f = absurd (let z : ◌≡◌ {A = ℕ} 0 1 = cc in omega arith)
      go false t e b f = let c : count ≡ length cs = cc in (t, c, b, f)

  pub uncollected : r ≡ None → (too_many cs was ≡ true) × (now ≡ replicate (length was) 0) × (oklab' ≡ oklab)
  uncollected q = go (too_many cs was) refl (sym q ∙ p.answer) p.bytes p.floats
    where
      go : (t : Bool) → too_many cs was ≡ t → None ≡ cond t None (Some (length cs)) → now ≡ cond t (replicate (length was) 0) (places_with cs was)
          → oklab' ≡ cond t oklab (oklab_with scale cs oklab) → (too_many cs was ≡ true) × (now ≡ replicate (length was) 0) × (oklab' ≡ oklab)
      go true t e b f = (t, b, f)
      go false t e b f = absurd (let z : ◌≡◌ {A = ℕ} 0 1 = cc in omega arith)

-- ---- the fronts of the rooms
module _ (q : Commission) where
  pub roomed : {was now : List ℕ} {oklab oklab' : List Float} {r : Option ℕ} {count : ℕ}
      → Collects (candidate_list q) q.scale was oklab r now oklab' → r ≡ Some count
      → length oklab ≡ 3 * (length was / 4) → Roomed q now oklab' count
  unfolding candidate_bytes too_many
  roomed {was} {now} {oklab} {oklab'} {count = count} p e long =
      let c = collected p count e in
      let cs = candidate_list q in
      let fits : length cs ≤ length was / 4 = ltb-false (length was / 4) (length cs) c.0 in
      let bytes : length now ≡ length was =
      ap length c.2 ∙ filled-length 4 (λ i. bytes_of (candidate_at cs i).0) (λ i. refl) was (length cs) (omega arith) in
      let floats : length oklab' ≡ length oklab =
      ap length c.3 ∙ filled-length 3 (oklab_floats q.scale (candidate_at cs)) (λ i. refl) oklab (length cs) (omega arith) in
      record {
        counted = c.1;
        bytes = omega (arith, c.1);
        floats = omega (arith, c.1);
        colors = (λ t. take (4 * c.1 t) (c.2 t)) ∙ filled_front 4 (λ i. bytes_of (candidate_at cs i).0) (λ i. refl) was (length cs);
        converted = (λ t. take (3 * c.1 t) (c.3 t)) ∙ list_front q.scale (candidate_at cs) (length cs) oklab;
      }

-- ---- a pixel that is not skipped is seen, and so its colour is a candidate
some_in : {A : Type 0} (x : A) (xs : List A) → In x xs → 0 < length xs
some_in x [] i = absurd i
some_in x (y ∷ ys) i = omega arith

-- where the reduction table holds bytes
pub some_candidate : (zero : Option ReducedColor) (by : Reducing) (reduction pixels : List ℕ) (n : ℕ) → ((v : ℕ) → get_or reduction v 0 < 256) → (i : ℕ) → i < n
    → is_skipped zero (reduced_by by reduction pixels i) ≡ false → 0 < length (candidates_of (reduced_by by reduction pixels) n)
some_candidate zero by reduction pixels n bytes i h s =
    let reduced = reduced_by by reduction pixels in
    some_in (reduced i) (candidates_of reduced n) ((candidates_is reduced (reduced_solid by reduction pixels bytes) n).whole i h (drawn_seen reduced i zero s))
