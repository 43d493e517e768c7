-- The public call: what is known where no check refuses (`accepted`), and its answers: refused by a check (`call_refused`), or collected (`call_collected`).
-- The number of what it answers is the lowest that applies (`number_is`), and two results that satisfy its promise are equal (`colors_only`).
-- Assumes nothing.
use mathlib.Core.Path.{◌≡◌, refl, sym, ap, ◌∙◌, subst}
use mathlib.Core.Bool.{Bool, true, false, cond, not}
use mathlib.Core.List.{List, [], ◌∷◌}
use Prim.Native.Nat.{ℕ, ◌*◌, ◌/◌, ◌%◌, ◌≤◌}
use Rattle.std.specs.Prelude.{Option, Some, None, Result, Ok, Err}
use borrow.Author.Tests.{ltb-false, ne_eqb}
use lib.Dec.{ltb, eqb}
use lib.Ieee.{Float}
use lib.ListN.{length, replicate}
use Rattle.color.specs.declared.ReducedColor.{ReducedColor}
use Rattle.replies.specs.Replies.{Reply, ◌if◌, first_reply, Lowest, after, NoneApplies}
use Rattle.replies.specs.Unique.{Unique}
use Rattle.replies.specs.Refusals.{number, number_of}
use Rattle.replies.specs.declared.Refusal.{Refusal}
use Rattle.replies.specs.declared.Refusal.TheVariants.{TooManyCandidates}
use Rattle.lists.proofs.Bools.{or_split, equals}
use Rattle.replies.proofs.ReplyLaws.{reply_zero, reply_none, reply_at, reply_front, reply_other, none_both, after_refused}
use Rattle.replies.proofs.AnswerLaws.{answers_only, answers_lowest}
use Rattle.replies.proofs.RefusalLaws.{answer_number, answered_err, answered_ok}
use Rattle.reducing.specs.declared.Reducing.{Reducing}
use Rattle.picture.specs.Bounds.{opaque_needed, lent_wrong}
use Rattle.picture.specs.Pixels.{basis, reduced_by}
use Rattle.picture.proofs.BoundLaws.{sized, lent_so}
use Rattle.candidates.specs.Candidates.{candidates_of}
use Rattle.candidates.specs.Rooms.{places_with, oklab_with, too_many, Collects}
use Rattle.candidates.specs.Calls.{Asked, candidates_in, lengths_of, rooms_wrong, lengths_wrong, checks, replies, CandidateColors}
use Rattle.candidates.specs.Calls.{answer_of, places_after, oklab_after}
use Rattle.candidates.specs.declared.Lengths.{Lengths}

-- ---- what the checks leave
-- rooms that are not wrong: at most 65,536 places, and three floats a place
pub roomy : (places oklab : ℕ) → rooms_wrong places oklab ≡ false → (places ≤ 4 * 65536) × (oklab ≡ 3 * (places / 4))
unfolding rooms_wrong
roomy places oklab e =
    let a = or_split (ltb (4 * 65536) places) _ (or_split (not (eqb (places % 4) 0)) _ e).1 in
    (ltb-false (4 * 65536) places a.0, equals oklab (3 * (places / 4)) a.1)

pub record Ready (by : Reducing) (n : ℕ) (lent : Lengths) : Type 0 where
  pub size : n ≤ 1048576
  pub reduction : lent.reduction ≡ 256
  pub scale : lent.scale ≡ 256
  pub pixels : lent.pixels ≡ 4 * n
  pub opaque : lent.opaque ≡ opaque_needed by n
  pub places : lent.places ≤ 4 * 65536
  pub oklab : lent.oklab ≡ 3 * (lent.places / 4)

pub accepted : (shift : ℕ) (by : Reducing) (width height : ℕ) (lent : Lengths) → first_reply (checks shift by width height lent) ≡ 0
    → Ready by (width * height) lent
unfolding lengths_wrong
accepted shift by width height lent e =
    let none = reply_none (checks shift by width height lent) tt e in
    let a = or_split (lent_wrong by lent.reduction lent.scale lent.pixels lent.opaque (width * height)) _ none.1.1.0 in
    let so = lent_so by lent.reduction lent.scale lent.pixels lent.opaque (width * height) a.0 in
    let room = roomy lent.places lent.oklab a.1 in
    record {
      size = (sized width height none.1.0).2;
      reduction = so.0;
      scale = so.1;
      pixels = so.2;
      opaque = so.3;
      places = room.0;
      oklab = room.1;
    }

-- ---- the answers
-- what is answered with what was collected
abbrev answer_from : Option ℕ → Result ℕ Refusal
answer_from (Some n) = Ok n
answer_from None = Err TooManyCandidates

module _ (x : Asked) where
  abbrev checked : List Reply
  checked = checks x.shift x.reducing x.width x.height (lengths_of x)

  abbrev cs : List ReducedColor
  cs = candidates_in x

  abbrev full : Bool
  full = too_many cs x.places

  pub call_refused : {e : Refusal} → number e ≡ first_reply checked → CandidateColors x (Err e) x.places x.oklab
  call_refused {e} n = record {
    answer = answered_err (replies x) _ (n ∙ sym (reply_front checked (7 if full ∷ []) (λ z. some (n ∙ z))));
    bytes =
        after_refused (number e) (places_with cs x.places) x.places some
        ∙ ap (λ (b : Bool). cond b (replicate (length x.places) 0) (after (number e) (places_with cs x.places) x.places)) (sym (ne_eqb (number e) 7 not_seven));
    floats = after_refused (number e) (oklab_with x.scale cs x.oklab) x.oklab some;
  }
    where
      -- the result has 0
      some : number e ≡ 0 → ⊥
      some z = let q = answer_number (length cs) e ∙ ap (answer_of x) z in cc

      not_seven : number e ≡ 7 → ⊥
      not_seven q = reply_other 7 checked tt (sym n ∙ q)

  -- what is collected of the pixels that reduce, through the tables as arrays
  pub call_collected : first_reply checked ≡ 0 → {reduction scale pixels : List ℕ} → reduction ≡ x.reduction → scale ≡ x.scale
      → pixels ≡ basis x.reducing x.pixels x.opaque → {r s : Option ℕ} {places : List ℕ} {oklab : List Float}
      → Collects (candidates_of (reduced_by x.reducing reduction pixels) (x.width * x.height)) scale x.places x.oklab s places oklab
      → s ≡ r → CandidateColors x (answer_from r) places oklab
  unfolding candidates_in
  call_collected free table scales they_are {r} {s} {places} {oklab} of_these same = go full refl
    where
      p : Collects cs x.scale x.places x.oklab s places oklab
      p = rw (table, scales, they_are) at of_these

      none : NoneApplies checked
      none = reply_none checked tt free

      answer : {t : Bool} → full ≡ t → cond t None (Some (length cs)) ≡ r
      answer t = sym (p.answer ∙ ap (λ (b : Bool). cond b None (Some (length cs))) t) ∙ same

      bytes : {t : Bool} → full ≡ t → places ≡ cond t (replicate (length x.places) 0) (places_with cs x.places)
      bytes t = p.bytes ∙ ap (λ (b : Bool). cond b (replicate (length x.places) 0) (places_with cs x.places)) t

      floats : {t : Bool} → full ≡ t → oklab ≡ cond t x.oklab (oklab_with x.scale cs x.oklab)
      floats t = p.floats ∙ ap (λ (b : Bool). cond b x.oklab (oklab_with x.scale cs x.oklab)) t

      go : (t : Bool) → full ≡ t → CandidateColors x (answer_from r) places oklab
      go true t = subst (λ (r : Option ℕ). CandidateColors x (answer_from r) places oklab) (answer t) (record {
        answer = answered_err (replies x) _ (sym (reply_at checked (7 if full) [] none t));
        bytes = bytes t;
        floats = floats t;
      })
      go false t = subst (λ (r : Option ℕ). CandidateColors x (answer_from r) places oklab) (answer t) (record {
        answer = answered_ok (replies x) _ (reply_zero (replies x) (none_both checked (7 if full ∷ []) none (t, tt))) refl;
        bytes = bytes t;
        floats = floats t;
      })

  -- ---- the number, and one result
  pub number_is : {r : Result ℕ Refusal} {places : List ℕ} {oklab : List Float} → CandidateColors x r places oklab → Lowest (replies x) (number_of r)
  number_is p = answers_lowest _ _ _ tt p.answer

  pub colors_only : Unique (λ (y : Result ℕ Refusal × List ℕ × List Float). CandidateColors x y.0 y.1 y.2)
  colors_only y z p q =
      let same : y.0 ≡ z.0 = answers_only number_of (replies x) (answer_of x) y.0 z.0 p.answer q.answer in
      let bytes : y.1 ≡ z.1 = p.bytes ∙ ap (λ (r : Result ℕ Refusal). places_after x (number_of r)) same ∙ sym q.bytes in
      let floats : y.2 ≡ z.2 = p.floats ∙ ap (λ (r : Result ℕ Refusal). oklab_after x (number_of r)) same ∙ sym q.floats in
      λ i. (same i, bytes i, floats i)
