-- What the picture calls answer through the C interface and leave in their buffers and behind their pointers, and what is lent to them. The result is the
-- definition that has the call's name, and that it is so is the call's promise. Definitions only.
-- Written from document 01, "Bounds and replies": "On acceptance the candidate rooms hold the list (counted in the answer)", "all unchanged";
-- and from document 02, Ask 5: "Each call names its reduction", "1 for any other pairing".
use Rattle.std.specs.Prelude.{◌≡◌, ℕ, cond, List, eqb, ltb, ℤ, Float, length, Option, Some, None}
use Rattle.replies.specs.Replies.{first_reply, after}
use Rattle.reducing.specs.declared.Reducing.{Reducing}
use Rattle.reducing.specs.declared.Reducing.TheVariants.{ByAlpha, Grey, OpaqueColor}
use Rattle.candidates.specs.Calls.{Asked, candidates_in, replies, places_after, oklab_after}
use Rattle.color.specs.Color.{rgba}
use Rattle.color.specs.declared.ReducedColor.{ReducedColor}
use Rattle.drawing.specs.Lent.{cells_after}
use Rattle.quantize.specs.Quantize as quantize
use Rattle.quantize.specs.Quantize.{Commission, commission, quantizing, indices_of, pixels_of}
use Rattle.dither.specs.declared.Settings.{Settings}
use Rattle.dither.specs.Mode as mode
use Rattle.dither.specs.Mode.{Buffers, candidate_list, tile_over, leaves, buffers_after}

-- ---- the reductions by their numbers: 0 by alpha, 1 grey, 2 opaque colour
unfoldable pub reducing_of : ℕ → Reducing
reducing_of n = cond (eqb n 0) ByAlpha (cond (eqb n 1) Grey OpaqueColor)

-- what comes of a call, where it depends on the reduction; with a number that names none, it is refused
abbrev pub named : {A : Type 0} → ℕ → (Reducing → A) → (refused : A) → A
named n result refused = cond (ltb 2 n) refused (result (reducing_of n))

-- ---- `badge_candidate_colors_in`: the number, the candidates' bytes and floats, and how many there are
-- what is asked, from its parts, by the reduction
abbrev pub lent_to : (shift width height : ℕ) (reduction scale pixels opaque places : List ℕ) → List Float → Reducing → Asked
lent_to shift width height reduction scale pixels opaque places oklab reducing = record {
  shift = shift;
  reducing = reducing;
  width = width;
  height = height;
  reduction = reduction;
  scale = scale;
  pixels = pixels;
  opaque = opaque;
  places = places;
  oklab = oklab;
}

abbrev pub badge_candidate_colors_in : Asked → ℕ → ℕ × List ℕ × List Float × ℕ
badge_candidate_colors_in x count =
    let n = first_reply (replies x) in
    (n, places_after x n, oklab_after x n, after n (length (candidates_in x)) count)

abbrev pub PromisedCandidateColorsIn : ℕ → (Reducing → Asked) → ℕ → ℕ × List ℕ × List Float × ℕ → Type 0
PromisedCandidateColorsIn n x count left = left ≡ named n (λ by. badge_candidate_colors_in (x by) count) (1, (x ByAlpha).places, (x ByAlpha).oklab, count)

-- ---- `badge_quantize_pixels`: the number, the indices, the picture and the cells
-- what is asked, from its parts, by the reduction
abbrev pub asked : (shift kind width height : ℕ) (reduction scale palette pixels opaque : List ℕ) → Reducing → Commission
asked shift kind width height reduction scale palette pixels opaque reducing =
    commission shift reducing kind width height reduction scale palette pixels opaque

abbrev pub badge_quantize_pixels : Commission → (indices out : List ℕ) → List ℤ → ℕ × List ℕ × List ℕ × List ℤ
badge_quantize_pixels q indices out cells =
    let n = first_reply (quantize.replies q indices out cells) in
    (n, after n (indices_of q) indices, after n (pixels_of q) out, after n (cells_after (quantizing q) cells) cells)

abbrev pub PromisedQuantizePixels : ℕ → (Reducing → Commission) → (indices out : List ℕ) → List ℤ → ℕ × List ℕ × List ℕ × List ℤ → Type 0
PromisedQuantizePixels n q indices out cells left = left ≡ named n (λ by. badge_quantize_pixels (q by) indices out cells) (1, indices, out, cells)

-- ---- `badge_dither_to_mode`: the number, the buffers, how many candidates there are, and the first tile over its limit
-- colour zero: absent where the flag is 0, else the reduced colour of four bytes
unfoldable pub zero_of : ℕ → (r g b a : ℕ) → Option ReducedColor
zero_of flag r g b a = cond (eqb flag 0) None (Some (record { 0 = rgba r g b a }))

-- the settings, from their parts, by the reduction
abbrev pub settings_of : (shift kind width height origin_x origin_y tile_width tile_height limit : ℕ) → Option ReducedColor → Reducing → Settings
settings_of shift kind width height origin_x origin_y tile_width tile_height limit zero reducing = record {
  kind = kind;
  shift = shift;
  reducing = reducing;
  width = width;
  height = height;
  origin_x = origin_x;
  origin_y = origin_y;
  tile_width = tile_width;
  tile_height = tile_height;
  limit = limit;
  zero = zero;
}

-- what is asked, by the reduction
abbrev pub drawn_by : (Reducing → Settings) → (reduction scale pixels opaque : List ℕ) → Reducing → mode.Commission
drawn_by settings reduction scale pixels opaque reducing = mode.commission (settings reducing) reduction scale pixels opaque

abbrev pub badge_dither_to_mode : mode.Commission → Buffers → (count tile : ℕ) → ℕ × Buffers × ℕ × ℕ
badge_dither_to_mode q was count tile =
    let n = first_reply (mode.replies q was) in
    (n, buffers_after q was n, leaves n (length (candidate_list q)) (length (candidate_list q)) count, leaves n tile (tile_over q) tile)

abbrev pub PromisedDitherToMode : ℕ → (Reducing → mode.Commission) → Buffers → (count tile : ℕ) → ℕ × Buffers × ℕ × ℕ → Type 0
PromisedDitherToMode n q was count tile left = left ≡ named n (λ by. badge_dither_to_mode (q by) was count tile) (1, was, count, tile)
