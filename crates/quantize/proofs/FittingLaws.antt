-- What the number says: it is the first that applies (`number_is`); where none applies, all lengths fit
-- (`accepted`). Assumes nothing.
use mathlib.Core.Path.{◌≡◌, ◌∙◌}
use mathlib.Core.Bool.{false, not}
use mathlib.Core.List.{List}
use Rattle.std.specs.Prelude.{Result}
use Prim.Native.Nat.{ℕ, ◌*◌, ◌/◌, ◌%◌, ◌<◌}
use native.Mathlib.Omega.{arith}
use borrow.Author.Tests.{ltb-false, eqb-false, not-false}
use lib.Dec.{eqb}
use lib.IntN.{ℤ}
use Rattle.lists.proofs.Bools.{or_split, equals}
use Rattle.replies.specs.Replies.{FirstReply, first_reply}
use Rattle.replies.proofs.ReplyLaws.{reply_none}
use Rattle.replies.proofs.AnswerLaws.{answers_first}
use Rattle.replies.specs.Refusals.{number_of}
use Rattle.replies.specs.declared.Refusal.{Refusal}
use Rattle.picture.specs.Bounds.{lent_wrong}
use Rattle.picture.proofs.BoundLaws.{sized, lent_so}
use Rattle.patterns.specs.Kinds.{is_kind, cells_needed}
use Rattle.mixing.proofs.Widths.{pairing_shift}
use Rattle.quantize.specs.declared.Lengths.{Lengths}
use Rattle.quantize.specs.Quantize.{Commission, size, lengths_wrong, entries_wrong, checks, replies, Quantized}
use Rattle.quantize.specs.Steps.{Fitting}

pub number_is : {q : Commission} {indices₀ out₀ : List ℕ} {cells₀ : List ℤ} {r : Result Unit Refusal} {indices out : List ℕ} {cells : List ℤ}
    → Quantized q indices₀ out₀ cells₀ r indices out cells → FirstReply (replies q indices₀ out₀ cells₀) (number_of r)
number_is p = answers_first _ _ _ tt p.answer

-- what is not 0 is more
some_more : (n : ℕ) → eqb n 0 ≡ false → 0 < n
some_more n e = let h = eqb-false n 0 e in omega arith

pub accepted : (q : Commission) (s : Lengths) → first_reply (checks q.shift q.reducing q.kind q.width q.height s) ≡ 0 → Fitting q s
unfolding lengths_wrong entries_wrong cells_needed
accepted q s e =
    let n = size q in
    let none = reply_none (checks q.shift q.reducing q.kind q.width q.height s) tt e in
    let mode = or_split (not (is_kind q.kind)) _ none.0 in
    let bounds = sized q.width q.height none.1.1.0 in
    let l1 = or_split (lent_wrong q.reducing s.reduction s.scale s.pixels s.opaque n) _ none.1.1.1.0 in
    let l2 = or_split (not (eqb (s.palette % 4) 0)) _ l1.1 in
    let l3 = or_split (not (eqb s.indices n)) _ l2.1 in
    let l4 = or_split (not (eqb s.out (4 * n))) _ l3.1 in
    let lent = lent_so q.reducing s.reduction s.scale s.pixels s.opaque n l1.0 in
    let p = or_split (eqb (s.palette / 4) 0) _ none.1.1.1.1.0 in
    record {
      shift = pairing_shift q.reducing q.shift (not-false _ mode.1);
      wide = bounds.0;
      high = bounds.1;
      small = bounds.2;
      reduction = lent.0;
      scale = lent.1;
      pixels = lent.2;
      opaque = lent.3;
      indices = equals _ _ l3.0;
      out = equals _ _ l4.0;
      cells = λ d. equals _ _ l4.1 ∙ rw d;
      some = some_more _ p.0;
      few = ltb-false 256 (s.palette / 4) p.1;
    }
