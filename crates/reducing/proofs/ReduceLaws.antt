-- A reduced colour that is seen is solid (`seen_solid`); by alpha it is not seen exactly if alpha is below 128 (`seen_least`), and then it is
-- TRANSPARENT (`unseen_is`); of an opaque pixel alpha plays no part (`alpha_free`). Assumes nothing.
use mathlib.Core.Path.{◌≡◌, refl}
use mathlib.Core.Bool.{Bool, true, false, not, cond, false≢true}
use mathlib.Core.List.{List}
use Prim.Native.Nat.{ℕ}
use native.Mathlib.Omega.{arith}
use borrow.Author.Tests.{le-ltb}
use lib.Dec.{ltb}
use Rattle.lists.proofs.Bools.{clash}
use Rattle.color.specs.declared.NormalizedColor.{NormalizedColor}
use Rattle.color.specs.declared.ReducedColor.{ReducedColor}
use Rattle.color.specs.Color.{rgba, is_transparent, transparent_reduced}
use Rattle.reducing.specs.declared.Reducing.{Reducing}
use Rattle.reducing.specs.declared.Reducing.TheVariants.{ByAlpha, Grey, OpaqueColor}
use Rattle.reducing.specs.Luma.{luma_f32, luma_u8}
use Rattle.reducing.specs.Reduce.{solid, by_alpha, reduce_color, least_alpha, keeps_channels}

-- what goes through the table for each channel
abbrev pub red_of : Reducing → NormalizedColor → ℕ
red_of ByAlpha c = c.0.r
red_of Grey c = luma_u8 c
red_of OpaqueColor c = c.0.r

abbrev pub green_of : Reducing → NormalizedColor → ℕ
green_of ByAlpha c = c.0.g
green_of Grey c = luma_u8 c
green_of OpaqueColor c = c.0.g

abbrev pub blue_of : Reducing → NormalizedColor → ℕ
blue_of ByAlpha c = c.0.b
blue_of Grey c = luma_u8 c
blue_of OpaqueColor c = c.0.b

-- the colour's own red, where its channels are kept
pub own_red : (by : Reducing) (c : NormalizedColor) → keeps_channels by ≡ true → red_of by c ≡ c.0.r
own_red ByAlpha c e = refl
own_red Grey c e = absurd (false≢true e)
own_red OpaqueColor c e = refl

module _ (reduction : List ℕ) (c : NormalizedColor) where
  -- a test that is not passed leaves the solid colour
  left : (t : Bool) (x : ReducedColor) → not (is_transparent (cond t transparent_reduced x).0) ≡ true → cond t transparent_reduced x ≡ x
  left true x e = absurd (clash e refl)
  left false x e = refl

  pub seen_solid : (by : Reducing) → not (is_transparent (reduce_color by reduction c).0) ≡ true
      → reduce_color by reduction c ≡ solid reduction (red_of by c) (green_of by c) (blue_of by c)
  unfolding reduce_color by_alpha
  seen_solid ByAlpha e = left (ltb c.0.a 128) (solid reduction c.0.r c.0.g c.0.b) e
  seen_solid Grey e = refl
  seen_solid OpaqueColor e = refl

  -- by alpha: not seen exactly if alpha is below the least, and then TRANSPARENT
  pub seen_least : not (is_transparent (reduce_color ByAlpha reduction c).0) ≡ not (ltb c.0.a 128)
  unfolding reduce_color by_alpha
  seen_least = go (ltb c.0.a 128)
    where
      go : (t : Bool) → not (is_transparent (cond t transparent_reduced (solid reduction c.0.r c.0.g c.0.b)).0) ≡ not t
      go true = refl
      go false = refl

  pub unseen_is : ltb c.0.a 128 ≡ true → reduce_color ByAlpha reduction c ≡ transparent_reduced
  unfolding reduce_color by_alpha
  unseen_is e = rw e

-- no alpha is below 0, which is the least else
pub none_below : (a : ℕ) → ltb a 0 ≡ false
none_below a = le-ltb a 0 (omega arith)

-- whatever alpha a pixel has that is not reduced by it
abbrev with_alpha : NormalizedColor → ℕ → NormalizedColor
with_alpha c a = record { 0 = rgba c.0.r c.0.g c.0.b a }

pub alpha_free : (by : Reducing) → least_alpha by ≡ 0 → (reduction : List ℕ) (c : NormalizedColor) (a : ℕ)
    → reduce_color by reduction (with_alpha c a) ≡ reduce_color by reduction c
unfolding reduce_color luma_u8 luma_f32
alpha_free ByAlpha e reduction c a = absurd (let z : ◌≡◌ {A = ℕ} 128 0 = e in omega arith)
alpha_free Grey e reduction c a = refl
alpha_free OpaqueColor e reduction c a = refl
