-- The call: what it answers and leaves where a check refuses (`call_refused`), where there are too many candidates (`call_full`), and else
-- (`call_completed`); and the two ends of a picture whose candidates have places (`completed_over`, `completed`). Assumes nothing.
use mathlib.Core.Path.{◌≡◌, refl, sym, ◌∙◌, ap}
use mathlib.Core.Bool.{Bool, true, false, cond}
use mathlib.Core.List.{List, [], ◌∷◌, ◌++◌}
use Prim.Native.Nat.{ℕ}
use borrow.Author.Tests.{ne_eqb}
use lib.ListN.{length, replicate}
use lib.IntN.{ℤ, pos}
use lib.Ieee.{Float}
use Rattle.std.specs.Prelude.{Result, Ok, Err}
use Rattle.replies.specs.Replies.{Reply, ◌if◌, first_reply, after, NoneApplies}
use Rattle.replies.specs.Refusals.{number}
use Rattle.replies.specs.declared.Refusal.{Refusal}
use Rattle.replies.specs.declared.Refusal.TheVariants.{TooManyCandidates}
use Rattle.replies.proofs.RefusalLaws.{number_some, refusal_number}
use Rattle.replies.proofs.ReplyLaws.{reply_zero, reply_none, reply_at, reply_front, reply_other, none_both, after_refused}
use Rattle.drawing.specs.Lent.{cells_after}
use Rattle.candidates.specs.Rooms.{places_with, oklab_with, too_many}
use Rattle.dither.specs.declared.DitherError.{DitherError}
use Rattle.dither.specs.declared.DitherError.TheVariants.{TileOver, Refused}
use Rattle.dither.specs.Mode.{Commission, Buffers, buffers, candidate_list, dithering, tile_over, over_budget, pixels_of, lengths_of, checks, replies}
use Rattle.dither.specs.Mode.{number_of, answer_of, leaves, out_after, cells_left, places_after, oklab_after, DitheredToMode}
use Rattle.dither.specs.Steps.{Completes}

-- ---- the two ends of a picture whose candidates have places
module _ (q : Commission) {out₀ : List ℕ} {cells₀ : List ℤ} {count : ℕ} (counted : count ≡ length (candidate_list q)) {out : List ℕ} {cells : List ℤ}
  where
    pub completed_over : (tile : ℕ) → (over_budget q ≡ true) × (tile ≡ tile_over q) → out ≡ replicate (length out₀) 0
        → cells ≡ replicate (length cells₀) (pos 0) → Completes q out₀ cells₀ (Err (TileOver tile count)) out cells
    completed_over tile v o c = record { answer = rw v.0 (λ t. Err (TileOver (v.1 t) (counted t))); picture = rw v.0 o; cell_buffer = rw v.0 c }

    pub completed : over_budget q ≡ false → out ≡ pixels_of q → cells ≡ cells_after (dithering q) cells₀ → Completes q out₀ cells₀ (Ok count) out cells
    completed v o c = record { answer = rw v (ap Ok counted); picture = rw v o; cell_buffer = rw v c }

-- ---- the answers, by their number
module _ (q : Commission) (was : Buffers) where
  abbrev before : List Reply
  before = checks q.settings (lengths_of q was)

  abbrev seven : Reply
  seven = 7 if too_many (candidate_list q) was.places

  abbrev eight : Reply
  eight = 8 if over_budget q

  -- what is answered and left with number n
  call_is : {r : Result ℕ DitherError} {places out : List ℕ} {oklab : List Float} {cells : List ℤ} (n : ℕ) → first_reply (replies q was) ≡ n → number_of r ≡ n → r ≡ answer_of q n
      → places ≡ places_after q was.places n → oklab ≡ oklab_after q was.oklab n → out ≡ out_after q was.out n → cells ≡ cells_left q was.cells n
      → DitheredToMode q was r (buffers places oklab out cells)
  call_is n l number answer places oklab out cells = record {
    answer = record { number = number ∙ sym l; answer = answer ∙ ap (answer_of q) (sym number) };
    candidate_places = places ∙ ap (places_after q was.places) (sym number);
    candidate_oklab = oklab ∙ ap (oklab_after q was.oklab) (sym number);
    picture = out ∙ ap (out_after q was.out) (sym number);
    cell_buffer = cells ∙ ap (cells_left q was.cells) (sym number);
  }

  -- a buffer is as it was after a number that is neither 0 nor 8
  unchanged : {A : Type 0} (n : ℕ) (result over held : A) → (n ≡ 0 → ⊥) → (n ≡ 8 → ⊥) → held ≡ leaves n result over held
  unchanged n result over held some ne = after_refused n result held some ∙ ap (λ (b : Bool). cond b over (after n result held)) (sym (ne_eqb n 8 ne))

  refused_as : (e : Refusal) → (number e ≡ 8 → ⊥) → Err (Refused e) ≡ answer_of q (number e)
  unfolding answer_of
  refused_as e ne = rw (ne_eqb (number e) 0 (number_some e), ne_eqb (number e) 8 ne) (λ t. Err (Refused (sym (refusal_number e) t)))

  pub call_refused : {e : Refusal} → number e ≡ first_reply (checks q.settings (lengths_of q was)) → DitheredToMode q was (Err (Refused e)) was
  unfolding places_after oklab_after out_after cells_left
  call_refused {e} is =
      let n : ℕ = number e in
      let some : n ≡ 0 → ⊥ = number_some e in
      let not_seven : n ≡ 7 → ⊥ = λ z. reply_other 7 before tt (sym is ∙ z) in
      let not_eight : n ≡ 8 → ⊥ = λ z. reply_other 8 before tt (sym is ∙ z) in
      call_is n (reply_front before (seven ∷ eight ∷ []) (λ z. some (is ∙ z)) ∙ sym is) refl (refused_as e not_eight)
      (rw (ne_eqb n 7 not_seven) (unchanged n _ _ was.places some not_eight)) (unchanged n _ _ was.oklab some not_eight)
      (unchanged n _ _ was.out some not_eight) (unchanged n _ _ was.cells some not_eight)

  -- where no check refuses
  module _ (free : first_reply (checks q.settings (lengths_of q was)) ≡ 0) where
    none : NoneApplies before
    none = reply_none before tt free

    pub call_full : {places : List ℕ} {oklab : List Float} → too_many (candidate_list q) was.places ≡ true
        → places ≡ replicate (length was.places) 0 → oklab ≡ was.oklab
        → DitheredToMode q was (Err (Refused TooManyCandidates)) (buffers places oklab was.out was.cells)
    unfolding answer_of places_after oklab_after out_after cells_left
    call_full t p o = call_is 7 (reply_at before seven (eight ∷ []) none t) refl refl p o refl refl

    pub call_completed : {r : Result ℕ DitherError} {places out : List ℕ} {oklab : List Float} {cells : List ℤ} → too_many (candidate_list q) was.places ≡ false
        → places ≡ places_with (candidate_list q) was.places → oklab ≡ oklab_with q.scale (candidate_list q) was.oklab
        → Completes q was.out was.cells r out cells → DitheredToMode q was r (buffers places oklab out cells)
    unfolding answer_of places_after oklab_after out_after cells_left
    call_completed {r} {places} {out} {oklab} {cells} t p o c = go (over_budget q) refl c.answer c.picture c.cell_buffer
      where
        go : (b : Bool) → over_budget q ≡ b → r ≡ cond b (Err (TileOver (tile_over q) (length (candidate_list q)))) (Ok (length (candidate_list q)))
            → out ≡ cond b (replicate (length was.out) 0) (pixels_of q)
            → cells ≡ cond b (replicate (length was.cells) (pos 0)) (cells_after (dithering q) was.cells)
            → DitheredToMode q was r (buffers places oklab out cells)
        go true b a x y =
            call_is 8 (reply_at (before ++ seven ∷ []) eight [] (none_both before (seven ∷ []) none (t, tt)) b) (ap number_of a) a p o x y
        go false b a x y =
            call_is 0 (reply_zero (replies q was) (none_both before (seven ∷ eight ∷ []) none (t, (b, tt)))) (ap number_of a) a p o x y
