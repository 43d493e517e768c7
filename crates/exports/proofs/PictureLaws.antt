-- The picture calls through the C interface: the answer's case, handed over with the buffers, is the call's result. Assumes nothing.
use mathlib.Core.Path.{◌≡◌, refl, sym, ap, ◌∙◌}
use mathlib.Core.List.{List}
use Prim.Native.Nat.{ℕ}
use lib.IntN.{ℤ}
use lib.Ieee.{Float}
use lib.ListN.{length}
use Rattle.std.specs.Prelude.{Result, Ok, Err}
use Rattle.replies.specs.declared.Refusal.{Refusal}
use Rattle.replies.specs.declared.Refusal.TheVariants as refusal
use Rattle.replies.specs.Replies.{after}
use Rattle.replies.specs.Refusals.{number}
use Rattle.replies.specs.Refusals.{number_of as replied}
use Rattle.reducing.specs.declared.Reducing.{Reducing}
use Rattle.reducing.specs.declared.Reducing.TheVariants.{ByAlpha, Grey, OpaqueColor}
use Rattle.reducing.specs.Reduce.{reducing_number}
use Rattle.candidates.specs.Calls.{Asked, places_after, oklab_after, CandidateColors}
use Rattle.drawing.specs.Lent.{cells_after}
use Rattle.quantize.specs.Quantize.{Commission, quantizing, indices_of, pixels_of, Quantized}
use Rattle.dither.specs.declared.DitherError.{DitherError}
use Rattle.dither.specs.declared.DitherError.TheVariants.{TileOver, Refused}
use Rattle.dither.specs.Mode as mode
use Rattle.dither.specs.Mode.{Buffers, candidate_list, tile_over, leaves, buffers_after, number_of, answer_of, DitheredToMode}
use Rattle.dither.proofs.Unique.{left_is}
use Rattle.exports.specs.Answers.{left}
use Rattle.exports.specs.Pictures.{reducing_of, named, badge_candidate_colors_in, badge_quantize_pixels, badge_dither_to_mode}
use Rattle.exports.proofs.AnswerLaws.{left_after}

-- ---- a number that names a reduction
by_name : {A : Type 0} (result : Reducing → A) (refused : A) (by : Reducing) → result by ≡ named (reducing_number by) result refused
unfolding reducing_of
by_name result refused ByAlpha = refl
by_name result refused Grey = refl
by_name result refused OpaqueColor = refl

pub is_named : {A : Type 0} (n : ℕ) (result : Reducing → A) (refused : A) {by : Reducing} → reducing_number by ≡ n → result by ≡ named n result refused
is_named n result refused {by} e = by_name result refused by ∙ ap (λ (m : ℕ). named m result refused) e

-- ---- `candidate_colors_in`: the answer r, handed over where the pointer held `was`
pub candidates_left : (x : Asked) (was : ℕ) {r : Result ℕ Refusal} {places : List ℕ} {oklab : List Float} {n count : ℕ}
    → CandidateColors x r places oklab → ◌≡◌ {A = ℕ × ℕ} (n, count) (left was r) → (n, places, oklab, count) ≡ badge_candidate_colors_in x was
candidates_left x was h e =
    let p = e ∙ left_after was h.answer in
    let b = h.bytes ∙ ap (places_after x) h.answer.number in
    let f = h.floats ∙ ap (oklab_after x) h.answer.number in
    λ i. ((p i).0, b i, f i, (p i).1)

-- ---- `dither_to_mode`
-- an answer handed over, with the buffers, where the pointers held `count` and `tile`
abbrev pub telling : Buffers → (count tile : ℕ) → Result ℕ DitherError → ℕ × Buffers × ℕ × ℕ
telling then count tile (Ok k) = (0, then, k, tile)
telling then count tile (Err (TileOver t k)) = (8, then, k, t)
telling then count tile (Err (Refused e)) = (number e, then, count, tile)

module _ (q : mode.Commission) where
  abbrev candidates : ℕ
  candidates = length (candidate_list q)

  -- what is handed over after a number
  abbrev then_told : ℕ → Buffers → (count tile : ℕ) → ℕ × Buffers × ℕ × ℕ
  then_told n then count tile = (n, then, leaves n candidates candidates count, leaves n tile (tile_over q) tile)

  refused : (e : Refusal) (then : Buffers) (count tile : ℕ) → ◌≡◌ {A = ℕ × Buffers × ℕ × ℕ} (number e, then, count, tile) (then_told (number e) then count tile)
  refused refusal.KindOrShift then count tile = refl
  refused refusal.Size then count tile = refl
  refused refusal.Length then count tile = refl
  refused refusal.Entries then count tile = refl
  refused refusal.Tiles then count tile = refl
  refused refusal.Component then count tile = refl
  refused refusal.TooManyCandidates then count tile = refl
  refused refusal.NoMatrix then count tile = refl
  refused refusal.PamHeader then count tile = refl
  refused refusal.PamPixels then count tile = refl
  refused refusal.RetiredKind then count tile = refl

  told : (r : Result ℕ DitherError) → r ≡ answer_of q (number_of r) → (then : Buffers) (count tile : ℕ)
      → telling then count tile r ≡ then_told (number_of r) then count tile
  unfolding answer_of
  told (Ok k) a then count tile = let e : k ≡ candidates = cc in λ i. (0, then, e i, tile)
  told (Err (TileOver t k)) a then count tile =
      let e : k ≡ candidates = cc in
      let f : t ≡ tile_over q = cc in
      λ i. (8, then, e i, f i)
  told (Err (Refused x)) a then count tile = refused x then count tile

  -- where the answer r is the case y
  pub mode_by_case : (was : Buffers) (count tile : ℕ) {r y : Result ℕ DitherError} {then : Buffers} → DitheredToMode q was r then → r ≡ y
      → telling then count tile y ≡ badge_dither_to_mode q was count tile
  mode_by_case was count tile {r} {then = then} h e =
      ap (telling then count tile) (sym e) ∙ told r h.answer.answer then count tile
      ∙ (λ i. then_told (number_of r) (left_is q was h i) count tile)
      ∙ ap (λ (n : ℕ). then_told n (buffers_after q was n) count tile) h.answer.number

-- ---- `quantize_pixels`: where the answer r is the case y
pub quantized_by_case : (q : Commission) (indices₀ out₀ : List ℕ) (cells₀ : List ℤ) {r y : Result Unit Refusal} {indices out : List ℕ} {cells : List ℤ}
    → Quantized q indices₀ out₀ cells₀ r indices out cells → r ≡ y → (replied y, indices, out, cells) ≡ badge_quantize_pixels q indices₀ out₀ cells₀
quantized_by_case q indices₀ out₀ cells₀ h e =
    (λ i. (replied (sym e i), h.index_buffer i, h.picture i, h.cell_buffer i))
    ∙ ap (λ (n : ℕ). (n, after n (indices_of q) indices₀, after n (pixels_of q) out₀, after n (cells_after (quantizing q) cells₀) cells₀)) h.answer.number
