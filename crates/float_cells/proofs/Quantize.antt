-- `quantize_pixels` with sixteenths gives what it gave with f32 cells: where as many cells are lent the same answer, refusals included, the same indices and
-- pixels, and sixteen times the cells (`quantize_same`); where other lengths are lent, unless one of the two answers 3 (`quantize_but_3`). Assumes nothing.
use mathlib.Core.Path.{◌≡◌, sym, ap, ◌∙◌}
use mathlib.Core.Bool.{not, ◌||◌}
use mathlib.Core.List.{List, [], ◌∷◌, map}
use Prim.Native.Nat.{ℕ, ◌*◌, ◌<◌}
use lib.IntN.{ℤ}
use lib.ListN.{length}
use lib.Ieee.{Float}
use Rattle.replies.specs.Replies.{Reply, ◌if◌, first_reply, after}
use Rattle.replies.proofs.AnswerLaws.{answered}
use Rattle.floats.specs.Over.{sixteenths}
use Rattle.picture.specs.Bounds.{size_wrong}
use Rattle.patterns.specs.Kinds.{is_kind, is_retired}
use Rattle.reducing.specs.Reduce.{is_pairing}
use Rattle.drawing.specs.Drawing.{Drawing, drawn}
use Rattle.drawing.specs.Lent.{cells_after}
use Rattle.std.specs.Prelude.{Result}
use Rattle.replies.specs.Refusals.{number_of, answer}
use Rattle.replies.specs.declared.Refusal.{Refusal}
use Rattle.quantize.specs.Quantize.{Commission, Quantized, quantizing, entries, entries_wrong, lengths_wrong, lengths_of, checks, replies}
use Rattle.float_cells.specs.Arithmetic.{sixteen_times}
use Rattle.float_cells.specs.Drawn.{drawn_f, error_f, Bytes}
use Rattle.float_cells.specs.Calls.{QuantizedF, SameQuantized}
use Rattle.float_cells.proofs.Drawn.{source_byte, scaled_byte, drawn_same, error_sixteenths, error_counts}
use Rattle.float_cells.proofs.Shared.{row_changed, finished_same, index_same}

module _ {q : Commission} {indices₀ out₀ : List ℕ} {cells₀ : List ℤ} {floats₀ : List Float} {r s : Result Unit Refusal}
    {indices indices' out out' : List ℕ} {cells : List ℤ} {floats : List Float} (x : Quantized q indices₀ out₀ cells₀ r indices out cells)
    (y : QuantizedF q indices₀ out₀ floats₀ s indices' out' floats) where
  -- the rows before 3 and behind it
  front : List Reply
  front =
      1 if (not (is_kind q.kind) || not (is_pairing q.reducing q.shift))
      ∷ 15 if is_retired q.kind
      ∷ 2 if size_wrong q.width q.height
      ∷ []

  behind : List Reply
  behind = 4 if entries_wrong (entries q) ∷ []

  answer_by : first_reply (replies q indices₀ out₀ cells₀) ≡ first_reply (replies q indices₀ out₀ floats₀) → r ≡ s
  answer_by e =
      answered number_of (replies q indices₀ out₀ cells₀) (answer tt) x.answer
      ∙ ap (answer tt) e
      ∙ sym (answered number_of (replies q indices₀ out₀ floats₀) (answer tt) y.answer)

  -- as many cells: one answer
  same_length : length cells₀ ≡ length floats₀ → r ≡ s
  same_length e = answer_by (λ t. first_reply (checks q.shift q.reducing q.kind q.width q.height (record {
    reduction = length q.reduction;
    scale = length q.scale;
    palette = length q.palette;
    pixels = length q.pixels;
    opaque = length q.opaque;
    indices = length indices₀;
    out = length out₀;
    cells = e t;
  })))

  -- any lengths: one answer, but for 3
  but_3 : (number_of r ≡ 3 → ⊥) → (number_of s ≡ 3 → ⊥) → r ≡ s
  unfolding front behind
  but_3 h k =
      answer_by
      (row_changed front 3 (lengths_wrong q.reducing q.kind (q.width * q.height) (lengths_of q indices₀ out₀ cells₀))
      (lengths_wrong q.reducing q.kind (q.width * q.height) (lengths_of q indices₀ out₀ floats₀)) behind (λ e. h (x.answer.number ∙ e))
      (λ e. k (y.answer.number ∙ e)))

  module _ (pixels : Bytes q.pixels) (scale : Bytes q.scale) where
    abbrev d : Drawing
    d = quantizing q

    same : (i : ℕ) → i < d.width * d.height → drawn_f d i ≡ drawn d i
    same = drawn_same d (source_byte q.pixels pixels) (scaled_byte q.scale scale)

    -- what acceptance leaves in the cells
    left_cells : number_of r ≡ 0 → cells ≡ cells_after d cells₀
    left_cells accepted = x.cell_buffer ∙ ap (λ (n : ℕ). after n (cells_after d cells₀) cells₀) accepted

    left_floats : r ≡ s → number_of r ≡ 0 → floats ≡ error_f d floats₀
    left_floats e accepted = y.cell_buffer ∙ ap (λ (n : ℕ). after n (error_f d floats₀) floats₀) (ap number_of (sym e) ∙ accepted)

    results : r ≡ s → SameQuantized q r s indices indices' out out' cells floats
    results e = record {
      answer = e;
      index_buffer =
          x.index_buffer ∙ (λ t. after (number_of (e t)) (index_same d same q.palette (entries q) t) indices₀) ∙ sym y.index_buffer;
      picture = x.picture ∙ (λ t. after (number_of (e t)) (finished_same d same t) out₀) ∙ sym y.picture;
      cell_buffer = λ accepted k.
          ap (map sixteen_times) (left_floats e accepted)
          ∙ error_counts d (source_byte q.pixels pixels) (scaled_byte q.scale scale) k floats₀ cells₀
          ∙ sym (left_cells accepted);
      exact = λ accepted k.
          left_floats e accepted
          ∙ error_sixteenths d (source_byte q.pixels pixels) (scaled_byte q.scale scale) k floats₀ cells₀
          ∙ ap (map sixteenths) (sym (left_cells accepted));
    }

    pub quantize_same : length cells₀ ≡ length floats₀ → SameQuantized q r s indices indices' out out' cells floats
    quantize_same e = results (same_length e)

    pub quantize_but_3 : (number_of r ≡ 3 → ⊥) → (number_of s ≡ 3 → ⊥) → SameQuantized q r s indices indices' out out' cells floats
    quantize_but_3 h k = results (but_3 h k)
