-- The promise of `dither_to_mode` leaves one result: one answer, and one content of each buffer. Assumes nothing.
use mathlib.Core.Path.{◌≡◌, sym, ◌∙◌, ap}
use Rattle.replies.specs.Unique.{Unique}
use Rattle.replies.proofs.AnswerLaws.{answers_only}
use Prim.Native.Nat.{ℕ}
use Rattle.std.specs.Prelude.{Result}
use Rattle.dither.specs.declared.DitherError.{DitherError}
use Rattle.dither.specs.Mode.{Commission, Buffers, buffers, replies, number_of, answer_of, buffers_after, DitheredToMode}

-- an answer, and what the four buffers hold
abbrev pub Outcome : Type 0
Outcome = Result ℕ DitherError × Buffers

module _ (q : Commission) (was : Buffers) where
  -- what is left, from the answer's number
  pub left_is : {r : Result ℕ DitherError} {then : Buffers} → DitheredToMode q was r then → then ≡ buffers_after q was (number_of r)
  left_is p = λ t. buffers (p.candidate_places t) (p.candidate_oklab t) (p.picture t) (p.cell_buffer t)

  pub dither_to_mode_unique : Unique (λ (x : Outcome). DitheredToMode q was x.0 x.1)
  dither_to_mode_unique x y a b =
      let e : x.0 ≡ y.0 = answers_only number_of (replies q was) (answer_of q) x.0 y.0 a.answer b.answer in
      let then : x.1 ≡ y.1 = left_is a ∙ ap (λ (r : Result ℕ DitherError). buffers_after q was (number_of r)) e ∙ sym (left_is b) in
      λ t. (e t, then t)
