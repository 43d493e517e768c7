-- `same_reduced` is the test for equal colours: two colours pass it exactly if they are equal. Assumes nothing.
use mathlib.Core.Path.{◌≡◌, refl, sym, subst}
use mathlib.Core.Bool.{true}
use borrow.Author.Tests.{eq-eqb}
use lib.Dec.{T, eqb, eqb→eq}
use lib.Ieee.Fits.{and_l, and_r}
use Rattle.color.specs.declared.ReducedColor.{ReducedColor}
use Rattle.color.specs.Color.{same_reduced}

pub same→equal : (x y : ReducedColor) → same_reduced x y ≡ true → x ≡ y
unfolding same_reduced
same→equal x y e =
    let t : T (same_reduced x y) = subst T (sym e) tt in
    let r = eqb→eq x.0.r y.0.r (and_l (eqb x.0.r y.0.r) _ t) in
    let t₁ = and_r (eqb x.0.r y.0.r) _ t in
    let g = eqb→eq x.0.g y.0.g (and_l (eqb x.0.g y.0.g) _ t₁) in
    let t₂ = and_r (eqb x.0.g y.0.g) _ t₁ in
    let b = eqb→eq x.0.b y.0.b (and_l (eqb x.0.b y.0.b) _ t₂) in
    let a = eqb→eq x.0.a y.0.a (and_r (eqb x.0.b y.0.b) _ t₂) in
    λ i. record { 0 = record { r = r i; g = g i; b = b i; a = a i } }

pub same_self : (x : ReducedColor) → same_reduced x x ≡ true
unfolding same_reduced
same_self x = simp (eq-eqb x.0.r _ refl, eq-eqb x.0.g _ refl, eq-eqb x.0.b _ refl, eq-eqb x.0.a _ refl)

pub equal→same : (x y : ReducedColor) → x ≡ y → same_reduced x y ≡ true
equal→same x y e = subst (λ (z : ReducedColor). same_reduced x z ≡ true) e (same_self x)
