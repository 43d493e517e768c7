-- What the number says: it is the first that applies (`number_is`), and where no check refuses, all sizes and lengths fit (`accepted`).
-- Assumes nothing.
use mathlib.Core.Path.{◌≡◌, ◌∙◌}
use mathlib.Core.Bool.{false, not}
use Prim.Native.Nat.{ℕ, ◌*◌, ◌/◌, ◌≤◌}
use native.Mathlib.Omega.{arith}
use borrow.Author.Tests.{ltb-false, eqb-false, not-false}
use lib.Dec.{eqb}
use lib.ListN.{length}
use Rattle.replies.specs.Replies.{FirstReply, first_reply}
use Rattle.lists.proofs.Bools.{or_split, equals}
use Rattle.replies.proofs.ReplyLaws.{reply_none}
use Rattle.replies.proofs.AnswerLaws.{answers_first}
use Rattle.picture.specs.Bounds.{size_wrong, origin_wrong, lent_wrong, side_wrong}
use Rattle.picture.proofs.BoundLaws.{sized, lent_so}
use Rattle.mixing.proofs.Widths.{pairing_shift}
use Rattle.patterns.specs.Kinds.{is_kind, cells_needed}
use Rattle.candidates.specs.Calls.{rooms_wrong}
use Rattle.candidates.proofs.CallLaws.{roomy}
use Rattle.dither.specs.declared.Settings.{Settings}
use Rattle.std.specs.Prelude.{Result}
use Rattle.dither.specs.declared.DitherError.{DitherError}
use Rattle.dither.specs.Mode.{Commission, Buffers, size, lengths_of, bounds_wrong, lengths_wrong, budget_wrong, checks, replies, number_of, DitheredToMode}
use Rattle.dither.specs.Steps.{Fitting}

pub number_is : {q : Commission} {was then : Buffers} {r : Result ℕ DitherError} → DitheredToMode q was r then → FirstReply (replies q was) (number_of r)
number_is p = answers_first _ _ _ tt p.answer

-- the picture's size, where its bounds are not wrong
pub bounded : (s : Settings) → bounds_wrong s ≡ false → s.width * s.height ≤ 1048576
unfolding bounds_wrong
bounded s e = (sized s.width s.height (or_split (size_wrong s.width s.height) _ e).0).2

side : (n : ℕ) → side_wrong n ≡ false → (1 ≤ n) × (n ≤ 4096)
unfolding side_wrong
side n e =
    let a = or_split (eqb n 0) _ e in
    let h = eqb-false n 0 a.0 in
    (omega arith, ltb-false 4096 n a.1)

module _ (q : Commission) (b : Buffers) (e : first_reply (checks q.settings (lengths_of q b)) ≡ 0) where
  pub accepted : Fitting q b.out b.cells
  unfolding bounds_wrong lengths_wrong budget_wrong origin_wrong cells_needed
  accepted =
      let s = q.settings in
      let l = lengths_of q b in
      let n = size q in
      let none = reply_none (checks s l) tt e in
      let mode = or_split (not (is_kind s.kind)) _ none.0 in
      let b1 = or_split (size_wrong s.width s.height) _ none.1.1.0 in
      let b2 = or_split (origin_wrong s.origin_x s.width) _ b1.1 in
      let bounds = sized s.width s.height b1.0 in
      let l1 = or_split (lent_wrong s.reducing l.reduction l.scale l.pixels l.opaque n) _ none.1.1.1.0 in
      let l2 = or_split (rooms_wrong l.places l.oklab) _ l1.1 in
      let l3 = or_split (not (eqb l.out (4 * n))) _ l2.1 in
      let lent = lent_so s.reducing l.reduction l.scale l.pixels l.opaque n l1.0 in
      let t1 = or_split (side_wrong s.tile_width) _ none.1.1.1.1.0 in
      let t2 = or_split (side_wrong s.tile_height) _ t1.1 in
      let across = side s.tile_width t1.0 in
      let down = side s.tile_height t2.0 in
      record {
        shift = pairing_shift s.reducing s.shift (not-false _ mode.1);
        wide = bounds.0;
        high = bounds.1;
        small = bounds.2;
        across = ltb-false 4294967295 _ b2.0;
        down = ltb-false 4294967295 _ b2.1;
        reduction = lent.0;
        scale = lent.1;
        pixels = lent.2;
        opaque = lent.3;
        out_long = equals _ _ l3.0;
        cells_long = λ d. equals _ _ l3.1 ∙ rw d;
        some_wide = across.0;
        tile_wide = across.1;
        some_high = down.0;
        tile_high = down.1;
        few = ltb-false 256 s.limit t2.1;
      }

  -- the rooms: at most 65,536 places, and three floats a place
  pub room : (length b.places ≤ 262144) × (length b.oklab ≡ 3 * (length b.places / 4))
  unfolding lengths_wrong
  room =
      let l = lengths_of q b in
      let none = reply_none (checks q.settings l) tt e in
      let l1 = or_split (lent_wrong q.settings.reducing l.reduction l.scale l.pixels l.opaque (size q)) _ none.1.1.1.0 in
      roomy _ _ (or_split (rooms_wrong l.places l.oklab) _ l1.1).0
