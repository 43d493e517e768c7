-- The promises of the C functions leave one result each: one answer, and one content of each pointer and buffer that is lent to be written. Assumes nothing.
use mathlib.Core.List.{List}
use Prim.Native.Nat.{ℕ}
use lib.IntN.{ℤ}
use lib.Ieee.{Float}
use Rattle.replies.specs.Unique.{Unique}
use Rattle.replies.proofs.UniqueLaws.{equal_only}
use Rattle.reducing.specs.declared.Reducing.{Reducing}
use Rattle.candidates.specs.Calls.{Asked}
use Rattle.quantize.specs.Quantize.{Commission}
use Rattle.dither.specs.Mode as mode
use Rattle.exports.specs.Answers.{PromisedToOklab, PromisedOklabSqdist, PromisedOrderedThreshold, PromisedBracketWidth, PromisedLerp}
use Rattle.exports.specs.Lookups.{PromisedNearest, PromisedNearestTwo, BracketLeft, PromisedOrderedBracket, PromisedPick}
use Rattle.exports.specs.Files.{PromisedPamSize, PromisedReadPam, PromisedPamLength, PromisedWritePam}
use Rattle.exports.specs.Pictures.{PromisedCandidateColorsIn, PromisedQuantizePixels, PromisedDitherToMode}

pub badge_to_oklab_unique : (r g b : ℕ) → Unique (λ (x : Float × Float × Float). PromisedToOklab r g b x)
badge_to_oklab_unique r g b = equal_only _

pub badge_oklab_sqdist_unique : (l1 a1 b1 l2 a2 b2 was : Float) → Unique (λ (x : ℕ × Float). PromisedOklabSqdist l1 a1 b1 l2 a2 b2 was x)
badge_oklab_sqdist_unique l1 a1 b1 l2 a2 b2 was = equal_only _

pub badge_ordered_threshold_unique : (kind column row : ℕ) (was : Float) → Unique (λ (x : ℕ × Float). PromisedOrderedThreshold kind column row was x)
badge_ordered_threshold_unique kind column row was = equal_only _

pub badge_bracket_width_unique : (shift max was : ℕ) → Unique (λ (x : ℕ × ℕ). PromisedBracketWidth shift max was x)
badge_bracket_width_unique shift max was = equal_only _

pub badge_lerp_unique : (r1 g1 b1 r2 g2 b2 r g b clamp : ℕ) → Unique (λ (x : Float). PromisedLerp r1 g1 b1 r2 g2 b2 r g b clamp x)
badge_lerp_unique r1 g1 b1 r2 g2 b2 r g b clamp = equal_only _

module _ (reduced normalized : List ℕ) (oklab : List Float) (r g b : ℕ) where
  pub badge_nearest_unique : (was : ℕ) → Unique (λ (x : ℕ × ℕ). PromisedNearest reduced normalized oklab r g b was x)
  badge_nearest_unique was = equal_only _

  pub badge_nearest_two_unique : (width first second : ℕ) → Unique (λ (x : ℕ × ℕ × ℕ). PromisedNearestTwo reduced normalized oklab r g b width first second x)
  badge_nearest_two_unique width first second = equal_only _

  pub badge_ordered_bracket_unique : (width : ℕ) (dark light : List ℕ) (ratio : Float) (dark_at light_at : ℕ)
      → Unique (λ (x : BracketLeft). PromisedOrderedBracket reduced normalized oklab r g b width dark light ratio dark_at light_at x)
  badge_ordered_bracket_unique width dark light ratio dark_at light_at = equal_only _

pub badge_pick_unique : (dark light : List ℕ) (ratio : Float) (kind column row : ℕ) (chosen : List ℕ)
    → Unique (λ (x : ℕ × List ℕ). PromisedPick dark light ratio kind column row chosen x)
badge_pick_unique dark light ratio kind column row chosen = equal_only _

pub badge_candidate_colors_in_unique : (reducing : ℕ) (asked : Reducing → Asked) (count : ℕ)
    → Unique (λ (x : ℕ × List ℕ × List Float × ℕ). PromisedCandidateColorsIn reducing asked count x)
badge_candidate_colors_in_unique reducing asked count = equal_only _

pub badge_quantize_pixels_unique : (reducing : ℕ) (q : Reducing → Commission) (indices out : List ℕ) (cells : List ℤ)
    → Unique (λ (x : ℕ × List ℕ × List ℕ × List ℤ). PromisedQuantizePixels reducing q indices out cells x)
badge_quantize_pixels_unique reducing q indices out cells = equal_only _

pub badge_dither_to_mode_unique : (reducing : ℕ) (q : Reducing → mode.Commission) (was : mode.Buffers) (count tile : ℕ)
    → Unique (λ (x : ℕ × mode.Buffers × ℕ × ℕ). PromisedDitherToMode reducing q was count tile x)
badge_dither_to_mode_unique reducing q was count tile = equal_only _

pub badge_pam_size_unique : (file : List ℕ) (width height : ℕ) → Unique (λ (x : ℕ × ℕ × ℕ). PromisedPamSize file width height x)
badge_pam_size_unique file width height = equal_only _

pub badge_read_pam_unique : (file pixels : List ℕ) (width height : ℕ) → Unique (λ (x : ℕ × List ℕ × ℕ × ℕ). PromisedReadPam file pixels width height x)
badge_read_pam_unique file pixels width height = equal_only _

pub badge_pam_length_unique : (width height was : ℕ) → Unique (λ (x : ℕ × ℕ). PromisedPamLength width height was x)
badge_pam_length_unique width height was = equal_only _

pub badge_write_pam_unique : (width height : ℕ) (pixels file : List ℕ) → Unique (λ (x : ℕ × List ℕ). PromisedWritePam width height pixels file x)
badge_write_pam_unique width height pixels file = equal_only _
