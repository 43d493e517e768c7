-- `dither_to_mode` with sixteenths gives what it gave with f32 cells: where as many cells are lent the same answer, refusals and the first tile over its limit
-- included, the same pixels and candidate rooms, and sixteen times the cells (`dither_same`); where other lengths are lent, unless one of the two answers 3
-- (`dither_but_3`). Assumes nothing.
use mathlib.Core.Path.{◌≡◌, refl, sym, ap, ◌∙◌}
use mathlib.Core.Bool.{Bool, cond, not, ◌||◌}
use mathlib.Core.List.{List, [], ◌∷◌, ◌++◌, map}
use Prim.Native.Nat.{ℕ, ◌*◌, ◌<◌}
use lib.Dec.{eqb, ltb}
use lib.IntN.{pos}
use lib.ListN.{length, replicate}
use lib.Ieee.{Float}
use Rattle.replies.specs.Replies.{Reply, ◌if◌, first_reply}
use Rattle.replies.proofs.AnswerLaws.{answered}
use Rattle.lists.specs.First.{first_that}
use Rattle.floats.specs.Over.{sixteenths}
use Rattle.floats.specs.Bytes.{zero_f}
use Rattle.picture.specs.Pixels.{is_seen}
use Rattle.patterns.specs.Kinds.{is_kind, is_retired}
use Rattle.reducing.specs.Reduce.{is_pairing}
use Rattle.drawing.specs.Drawing.{Drawing, drawn}
use Rattle.drawing.specs.Lent.{cells_after}
use Rattle.candidates.specs.Rooms.{too_many}
use Rattle.judging.specs.Tiles.{tile_count}
use Rattle.judging.proofs.JudgedLaws.{over_same}
use Rattle.std.specs.Prelude.{Result, Ok, Err}
use Rattle.replies.specs.Refusals.{refusal}
use Rattle.dither.specs.declared.DitherError.{DitherError}
use Rattle.dither.specs.declared.DitherError.TheVariants.{TileOver, Refused}
use Rattle.dither.specs.Mode.{Commission, Buffers, DitheredToMode, dithering, reduced_of, candidate_list, tiles, tile_over, over_budget}
use Rattle.dither.specs.Mode.{bounds_wrong, lengths_wrong, budget_wrong, lengths_of, checks, replies, number_of, answer_of, leaves, places_after, oklab_after, out_after, cells_left}
use Rattle.float_cells.specs.Arithmetic.{sixteen_times}
use Rattle.float_cells.specs.Drawn.{drawn_f, error_f, Bytes}
use Rattle.float_cells.specs.Calls.{BuffersF, with_floats, lengths_f, tile_over_f, over_budget_f, replies_f, answer_f, DitheredToModeF, SameDithered}
use Rattle.float_cells.proofs.Drawn.{source_byte, scaled_byte, drawn_same, error_sixteenths, error_counts}
use Rattle.float_cells.proofs.Shared.{row_changed, finished_same}

module _ {q : Commission} {was then : Buffers} {floats₀ : List Float} {then' : BuffersF} {r s : Result ℕ DitherError} (x : DitheredToMode q was r then)
    (y : DitheredToModeF q (with_floats was floats₀) s then') (pixels : Bytes q.pixels) (scale : Bytes q.scale) where
  abbrev d : Drawing
  d = dithering q

  same : (i : ℕ) → i < d.width * d.height → drawn_f d i ≡ drawn d i
  same = drawn_same d (source_byte q.pixels pixels) (scaled_byte q.scale scale)

  -- the same tile is the first that is over its limit
  tile_same : tile_over q ≡ tile_over_f q
  unfolding tile_over tile_over_f
  tile_same =
      let s = q.settings in
      ap (λ (over : ℕ → Bool). first_that over (tile_count s.width s.height s.tile_width s.tile_height))
      (λ t tile. over_same {shown = is_seen (reduced_of q)} s.width s.height s.tile_width s.tile_height (λ i h. refl)
      (λ i h. sym (same i h)) s.limit tile t)

  budget_same : over_budget q ≡ over_budget_f q
  unfolding over_budget over_budget_f
  budget_same = ap (λ (t : ℕ). ltb t (tiles q.settings)) tile_same

  answers_same : (n : ℕ) → answer_of q n ≡ answer_f q n
  unfolding answer_of answer_f
  answers_same n = λ t.
      cond (eqb n 0) (Ok (length (candidate_list q)))
      (Err (cond (eqb n 8) (TileOver (tile_same t) (length (candidate_list q))) (Refused (refusal n))))

  -- ---- one answer
  answer_by : first_reply (replies q was) ≡ first_reply (replies_f q (with_floats was floats₀)) → r ≡ s
  answer_by e =
      answered number_of (replies q was) (answer_of q) x.answer
      ∙ ap (answer_of q) e
      ∙ answers_same (first_reply (replies_f q (with_floats was floats₀)))
      ∙ sym (answered number_of (replies_f q (with_floats was floats₀)) (answer_f q) y.answer)

  same_length : length was.cells ≡ length floats₀ → r ≡ s
  same_length e = answer_by (λ t. first_reply (checks q.settings (record {
    reduction = length q.reduction;
    scale = length q.scale;
    pixels = length q.pixels;
    opaque = length q.opaque;
    places = length was.places;
    oklab = length was.oklab;
    out = length was.out;
    cells = e t;
  }) ++ 7 if too_many (candidate_list q) was.places ∷ 8 if budget_same t ∷ []))

  -- the rows before 3, and behind it
  front : List Reply
  front =
      1 if (not (is_kind q.settings.kind) || not (is_pairing q.settings.reducing q.settings.shift))
      ∷ 15 if is_retired q.settings.kind
      ∷ 2 if bounds_wrong q.settings
      ∷ []

  behind : Bool → List Reply
  behind over = 5 if budget_wrong q.settings ∷ 7 if too_many (candidate_list q) was.places ∷ 8 if over ∷ []

  size : ℕ
  size = q.settings.width * q.settings.height

  but_3 : (number_of r ≡ 3 → ⊥) → (number_of s ≡ 3 → ⊥) → r ≡ s
  unfolding front behind size
  but_3 h k =
      answer_by
      (row_changed front 3 (lengths_wrong q.settings.reducing q.settings.kind size (lengths_of q was)) wrong (behind (over_budget q)) (λ e. h (x.answer.number ∙ e))
      (λ e. k (y.answer.number ∙ sym (ap with_floats_lem budget_same) ∙ e))
      ∙ ap with_floats_lem budget_same)
    where
      wrong : Bool
      wrong = lengths_wrong q.settings.reducing q.settings.kind size (lengths_f q (with_floats was floats₀))

      with_floats_lem : Bool → ℕ
      with_floats_lem over = first_reply (front ++ 3 if wrong ∷ behind over)

  -- ---- what acceptance leaves in the cells
  left_cells : number_of r ≡ 0 → then.cells ≡ cells_after d was.cells
  unfolding cells_left
  left_cells accepted =
      x.cell_buffer ∙ ap (λ (n : ℕ). leaves n (cells_after d was.cells) (replicate (length was.cells) (pos 0)) was.cells) accepted

  left_floats : r ≡ s → number_of r ≡ 0 → then'.cells ≡ error_f d floats₀
  left_floats e accepted =
      y.cell_buffer ∙ ap (λ (n : ℕ). leaves n (error_f d floats₀) (replicate (length floats₀) zero_f) floats₀) (ap number_of (sym e) ∙ accepted)

  -- ---- one picture
  results : r ≡ s → SameDithered q r s then then'
  unfolding out_after
  results e = record {
    answer = e;
    candidate_places = x.candidate_places ∙ ap (λ (a : Result ℕ DitherError). places_after q was.places (number_of a)) e ∙ sym y.candidate_places;
    candidate_oklab = x.candidate_oklab ∙ ap (λ (a : Result ℕ DitherError). oklab_after q was.oklab (number_of a)) e ∙ sym y.candidate_oklab;
    picture =
        x.picture
        ∙ (λ t. leaves (number_of (e t)) (finished_same d same t) (replicate (length was.out) 0) was.out)
        ∙ sym y.picture;
    cell_buffer = λ accepted k.
        ap (map sixteen_times) (left_floats e accepted)
        ∙ error_counts d (source_byte q.pixels pixels) (scaled_byte q.scale scale) k floats₀ was.cells
        ∙ sym (left_cells accepted);
    exact = λ accepted k.
        left_floats e accepted
        ∙ error_sixteenths d (source_byte q.pixels pixels) (scaled_byte q.scale scale) k floats₀ was.cells
        ∙ ap (map sixteenths) (sym (left_cells accepted));
  }

  pub dither_same : length was.cells ≡ length floats₀ → SameDithered q r s then then'
  dither_same e = results (same_length e)

  pub dither_but_3 : (number_of r ≡ 3 → ⊥) → (number_of s ≡ 3 → ⊥) → SameDithered q r s then then'
  dither_but_3 h k = results (but_3 h k)
