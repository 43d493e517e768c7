-- The answer 8: it names a tile whose different chosen colours outnumber the limit, the first such one (`over_said`); and where no number before it
-- applies and some tile's do, it is the answer (`over_answered`). Assumes nothing.
use mathlib.Core.Path.{◌≡◌, sym, ◌∙◌, ap}
use mathlib.Core.Bool.{true, false}
use mathlib.Core.List.{List, [], ◌∷◌, ◌++◌}
use Prim.Native.Nat.{ℕ, ◌<◌}
use lib.ListN.{length}
use Rattle.std.specs.Prelude.{Result, Err}
use Rattle.replies.specs.Replies.{Reply, ◌if◌, first_reply, NoneApplies}
use Rattle.replies.proofs.ReplyLaws.{reply_none, reply_at, reply_last, none_both}
use Rattle.replies.proofs.AnswerLaws.{answered}
use Rattle.candidates.specs.Rooms.{too_many}
use Rattle.dither.specs.declared.DitherError.{DitherError}
use Rattle.dither.specs.declared.DitherError.TheVariants.{TileOver}
use Rattle.dither.specs.Mode.{Commission, Buffers, candidate_list, tiles, tile_over, over_budget, lengths_of, checks, replies, number_of, answer_of}
use Rattle.dither.specs.Mode.{DitheredToMode}
use Rattle.dither.proofs.BudgetLaws.{Outnumbers, tile_first, over_if}

module _ {q : Commission} {was then : Buffers} {r : Result ℕ DitherError} (p : DitheredToMode q was r then) where
  -- the replies before 8
  abbrev earlier : List Reply
  earlier = checks q.settings (lengths_of q was) ++ 7 if too_many (candidate_list q) was.places ∷ []

  eight : number_of r ≡ 8 → over_budget q ≡ true
  eight e = reply_last earlier (8 if over_budget q) tt (sym p.answer.number ∙ e)

  -- that tile is one of the picture's, its colours outnumber the limit, and no earlier tile's do; the candidates are counted
  pub over_said : (tile count : ℕ) → r ≡ Err (TileOver tile count)
      → (tile < tiles q.settings) × Outnumbers q tile × ((t : ℕ) → t < tile → Outnumbers q t → ⊥) × (count ≡ length (candidate_list q))
  unfolding answer_of
  over_said tile count e =
      let n : number_of r ≡ 8 = ap number_of e in
      let a : ◌≡◌ {A = Result ℕ DitherError} (Err (TileOver tile count)) (Err (TileOver (tile_over q) (length (candidate_list q)))) = sym e ∙ p.answer.answer ∙ ap (answer_of q) n in
      let t : tile ≡ tile_over q = cc in
      let c : count ≡ length (candidate_list q) = cc in
      let f = tile_first q (eight n) in
      (rw t f.0, rw t f.1, rw t f.2, c)

  pub over_answered : first_reply (checks q.settings (lengths_of q was)) ≡ 0 → too_many (candidate_list q) was.places ≡ false
      → (t : ℕ) → t < tiles q.settings → Outnumbers q t → r ≡ Err (TileOver (tile_over q) (length (candidate_list q)))
  unfolding answer_of
  over_answered free fits t h m = answered number_of (replies q was) (answer_of q) p.answer ∙ ap (answer_of q) number
    where
      number : first_reply (replies q was) ≡ 8
      number =
          let before = checks q.settings (lengths_of q was) in
          let none : NoneApplies earlier = none_both before (7 if too_many (candidate_list q) was.places ∷ []) (reply_none before tt free) (fits, tt) in
          reply_at earlier (8 if over_budget q) [] none (over_if q t h m)
