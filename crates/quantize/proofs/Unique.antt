-- The promise of `quantize_pixels` leaves one result: one answer, and one content of each buffer. Assumes nothing.
use mathlib.Core.Path.{◌≡◌, sym, ◌∙◌, ap}
use mathlib.Core.List.{List}
use Prim.Native.Nat.{ℕ}
use lib.IntN.{ℤ}
use Rattle.std.specs.Prelude.{Result}
use Rattle.replies.specs.Replies.{after}
use Rattle.replies.specs.Unique.{Unique}
use Rattle.replies.proofs.AnswerLaws.{answers_only}
use Rattle.drawing.specs.Lent.{cells_after}
use Rattle.replies.specs.Refusals.{number_of, answer}
use Rattle.replies.specs.declared.Refusal.{Refusal}
use Rattle.quantize.specs.Quantize.{Commission, quantizing, indices_of, pixels_of, replies, Quantized}

-- an answer, and what the three buffers hold
abbrev pub Outcome : Type 0
Outcome = Result Unit Refusal × List ℕ × List ℕ × List ℤ

module _ (q : Commission) (indices₀ out₀ : List ℕ) (cells₀ : List ℤ) where
  pub quantize_pixels_unique : Unique (λ (x : Outcome). Quantized q indices₀ out₀ cells₀ x.0 x.1 x.2 x.3)
  quantize_pixels_unique x y a b =
      let e : x.0 ≡ y.0 = answers_only number_of (replies q indices₀ out₀ cells₀) (answer tt) x.0 y.0 a.answer b.answer in
      let n : number_of x.0 ≡ number_of y.0 = ap number_of e in
      let indices : x.1 ≡ y.1 = a.index_buffer ∙ ap (λ (m : ℕ). after m (indices_of q) indices₀) n ∙ sym b.index_buffer in
      let out : x.2 ≡ y.2 = a.picture ∙ ap (λ (m : ℕ). after m (pixels_of q) out₀) n ∙ sym b.picture in
      let cells : x.3 ≡ y.3 = a.cell_buffer ∙ ap (λ (m : ℕ). after m (cells_after (quantizing q) cells₀) cells₀) n ∙ sym b.cell_buffer in
      λ t. (e t, indices t, out t, cells t)
