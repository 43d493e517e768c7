-- What the calls on colours and thresholds answer through the C interface and leave behind their pointers: the answer's value on acceptance, and otherwise
-- what was there; the number is 0, or the refusal's. The result is the definition that has the call's name, and that it is so is the call's promise.
-- Definitions only.
-- Written from document 01, "Bounds and replies": "A refusal returns no colour", "all unchanged".
use Rattle.std.specs.Prelude.{◌≡◌, ℕ, not, eqb, Float, Result, Ok, Err}
use Rattle.replies.specs.declared.Refusal.{Refusal}
use Rattle.replies.specs.Refusals.{number}
use Rattle.color.specs.declared.NormalizedColor.{NormalizedColor}
use Rattle.color.specs.declared.Oklab.{Oklab}
use Rattle.color.specs.Color.{rgba}
use Rattle.color.specs.Oklab.{distance_of}
use Rattle.conversion.specs.Oklab.{to_oklab}
use Rattle.patterns.specs.Thresholds.{threshold_of}
use Rattle.mixing.specs.Widths.{bracket_width_of}
use Rattle.mixing.specs.Lerp.{lerp_of}

-- an opaque colour
abbrev pub opaque_rgb : ℕ → ℕ → ℕ → NormalizedColor
opaque_rgb r g b = record { 0 = rgba r g b 255 }

-- an Oklab colour of three floats
abbrev pub oklab : Float → Float → Float → Oklab
oklab l a b = record { l = l; a = a; b = b }

-- the parts of an Oklab colour
abbrev pub parts_of : Oklab → Float × Float × Float
parts_of o = (o.l, o.a, o.b)

-- ---- `badge_to_oklab`: the three parts; alpha plays no part
abbrev pub badge_to_oklab : (r g b : ℕ) → Float × Float × Float
badge_to_oklab r g b = parts_of (to_oklab (opaque_rgb r g b))

abbrev pub PromisedToOklab : (r g b : ℕ) → Float × Float × Float → Type 0
PromisedToOklab r g b left = left ≡ badge_to_oklab r g b

-- ---- what is left of an answer, where the pointer held `was`: the number, and the value or what was there
abbrev pub left : {A : Type 0} → A → Result A Refusal → ℕ × A
left was (Ok value) = (0, value)
left was (Err e) = (number e, was)

-- ---- `badge_oklab_sqdist`: the number, and the distance
abbrev pub badge_oklab_sqdist : (l1 a1 b1 l2 a2 b2 was : Float) → ℕ × Float
badge_oklab_sqdist l1 a1 b1 l2 a2 b2 was = left was (distance_of (oklab l1 a1 b1) (oklab l2 a2 b2))

abbrev pub PromisedOklabSqdist : (l1 a1 b1 l2 a2 b2 was : Float) → ℕ × Float → Type 0
PromisedOklabSqdist l1 a1 b1 l2 a2 b2 was left = left ≡ badge_oklab_sqdist l1 a1 b1 l2 a2 b2 was

-- ---- `badge_ordered_threshold`: the number, and the threshold
abbrev pub badge_ordered_threshold : (kind x y : ℕ) → Float → ℕ × Float
badge_ordered_threshold kind x y was = left was (threshold_of kind x y)

abbrev pub PromisedOrderedThreshold : (kind x y : ℕ) → Float → ℕ × Float → Type 0
PromisedOrderedThreshold kind x y was left = left ≡ badge_ordered_threshold kind x y was

-- ---- `badge_bracket_width`: the number, and the width
abbrev pub badge_bracket_width : (shift max was : ℕ) → ℕ × ℕ
badge_bracket_width shift max was = left was (bracket_width_of shift max)

abbrev pub PromisedBracketWidth : (shift max was : ℕ) → ℕ × ℕ → Type 0
PromisedBracketWidth shift max was left = left ≡ badge_bracket_width shift max was

-- ---- `badge_lerp`: the share, clamped where the flag is not 0
abbrev pub badge_lerp : (r1 g1 b1 r2 g2 b2 r g b clamp : ℕ) → Float
badge_lerp r1 g1 b1 r2 g2 b2 r g b clamp = lerp_of (opaque_rgb r1 g1 b1) (opaque_rgb r2 g2 b2) (opaque_rgb r g b) (not (eqb clamp 0))

abbrev pub PromisedLerp : (r1 g1 b1 r2 g2 b2 r g b clamp : ℕ) → Float → Type 0
PromisedLerp r1 g1 b1 r2 g2 b2 r g b clamp left = left ≡ badge_lerp r1 g1 b1 r2 g2 b2 r g b clamp
