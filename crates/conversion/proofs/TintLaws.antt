-- No grey has a tint: its a and b are 0, by one computed test over the 256 greys. Assumes nothing.
use mathlib.Core.Path.{◌≡◌, refl, ap, ◌∙◌}
use Prim.Native.Nat.{ℕ, ◌<◌}
use lib.IntN.{pos}
use lib.Ieee.{round}
use Rattle.lists.proofs.Computed.{agree}
use Rattle.floats.specs.Over.{over, millionths}
use Rattle.floats.specs.Bytes.{zero_f}
use Rattle.color.specs.declared.NormalizedColor.{NormalizedColor}
use Rattle.conversion.specs.Linear.{linear_of}
use Rattle.conversion.specs.Root.{digits, root_of}
use Rattle.conversion.specs.Nearest.{nearest}
use Rattle.conversion.specs.Oklab.{Millionths, millionths_of, oklab_of, to_oklab}
use Rattle.conversion.specs.Tint.{Grey, Untinted}

-- the millionths of the grey of byte k
abbrev grey_of : ℕ → Millionths
grey_of k = millionths_of (linear_of k) (linear_of k) (linear_of k)

a_none : (k : ℕ) → k < 256 → (grey_of k).a ≡ pos 0
unfolding linear_of digits root_of nearest
a_none = agree (λ k. (grey_of k).a) (λ k. pos 0) 256 refl

b_none : (k : ℕ) → k < 256 → (grey_of k).b ≡ pos 0
unfolding linear_of digits root_of nearest
b_none = agree (λ k. (grey_of k).b) (λ k. pos 0) 256 refl

none : millionths (pos 0) ≡ zero_f
unfolding over round
none = refl

pub grey_untinted : (c : NormalizedColor) → Grey c → Untinted (to_oklab c)
unfolding to_oklab oklab_of
grey_untinted c h = record {
  a = ap millionths (ap (λ (m : Millionths). m.a) one ∙ a_none c.0.r h.byte) ∙ none;
  b = ap millionths (ap (λ (m : Millionths). m.b) one ∙ b_none c.0.r h.byte) ∙ none;
}
  where
    one : millionths_of (linear_of c.0.r) (linear_of c.0.g) (linear_of c.0.b) ≡ grey_of c.0.r
    one i = millionths_of (linear_of c.0.r) (linear_of (h.green i)) (linear_of (h.blue i))
