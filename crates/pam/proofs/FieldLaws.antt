-- The five names: each has a place of its own. Assumes nothing.
use mathlib.Core.Path.{◌≡◌, refl, sym, ap, ◌∙◌}
use mathlib.Core.Bool.{true}
use Prim.Native.Nat.{ℕ, zero, suc, ◌<◌}
use native.Mathlib.Omega.{arith}
use borrow.Author.Tests.{eqb-true, eq-eqb}
use lib.Dec.{eqb}
use Rattle.pam.specs.declared.header.Field.{Field}
use Rattle.pam.specs.declared.header.Field.TheVariants.{Width, Height, Depth, Maxval, TupleType}
use Rattle.pam.specs.Header.{place}

-- the name at a place
at_place : ℕ → Field
at_place zero = Width
at_place (suc zero) = Height
at_place (suc (suc zero)) = Depth
at_place (suc (suc (suc zero))) = Maxval
at_place (suc (suc (suc (suc n)))) = TupleType

place_back : (name : Field) → at_place (place name) ≡ name
unfolding at_place
place_back Width = refl
place_back Height = refl
place_back Depth = refl
place_back Maxval = refl
place_back TupleType = refl

pub same_place : (a b : Field) → eqb (place a) (place b) ≡ true → a ≡ b
same_place a b e = sym (place_back a) ∙ ap at_place (eqb-true (place a) (place b) e) ∙ place_back b

pub own_place : (name : Field) → eqb (place name) (place name) ≡ true
own_place name = eq-eqb (place name) (place name) refl

pub place_within : (name : Field) → place name < 5
place_within Width = omega arith
place_within Height = omega arith
place_within Depth = omega arith
place_within Maxval = omega arith
place_within TupleType = omega arith
