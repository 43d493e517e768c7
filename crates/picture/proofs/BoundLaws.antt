-- A size that is not wrong: its sides and its pixels are within their bounds (`sized`). Lent lengths that are not wrong are those that are needed (`lent_so`).
-- Assumes nothing.
use mathlib.Core.Path.{◌≡◌}
use mathlib.Core.Bool.{false, not}
use mathlib.Core.List.{List}
use Prim.Native.Nat.{ℕ, ◌*◌, ◌≤◌}
use borrow.Author.Tests.{ltb-false}
use lib.Dec.{ltb, eqb}
use lib.ListN.{length}
use Rattle.lists.proofs.Bools.{or_split, equals}
use Rattle.reducing.specs.declared.Reducing.{Reducing}
use Rattle.reducing.specs.declared.Reducing.TheVariants.{ByAlpha, Grey, OpaqueColor}
use Rattle.picture.specs.Bounds.{size_wrong, table_wrong, opaque_needed, lent_wrong}
use Rattle.picture.specs.Pixels.{basis}

pub sized : (width height : ℕ) → size_wrong width height ≡ false → (width ≤ 4096) × (height ≤ 4096) × (width * height ≤ 1048576)
unfolding size_wrong
sized width height e =
    let a = or_split (ltb 4096 width) _ e in
    let b = or_split (ltb 4096 height) _ a.1 in
    (ltb-false 4096 width a.0, ltb-false 4096 height b.0, ltb-false 1048576 (width * height) b.1)

pub lent_so : (by : Reducing) (reduction scale pixels opaque n : ℕ) → lent_wrong by reduction scale pixels opaque n ≡ false
    → (reduction ≡ 256) × (scale ≡ 256) × (pixels ≡ 4 * n) × (opaque ≡ opaque_needed by n)
unfolding lent_wrong table_wrong
lent_so by reduction scale pixels opaque n e =
    let a = or_split (table_wrong reduction) _ e in
    let b = or_split (table_wrong scale) _ a.1 in
    let d = or_split (not (eqb pixels (4 * n))) _ b.1 in
    (equals reduction 256 a.0, equals scale 256 b.0, equals pixels (4 * n) d.0, equals opaque (opaque_needed by n) d.1)

-- then there are four bytes a pixel of those that reduce
pub basis_long : (by : Reducing) (pixels opaque : List ℕ) (n : ℕ) → length pixels ≡ 4 * n → length opaque ≡ opaque_needed by n
    → length (basis by pixels opaque) ≡ 4 * n
basis_long ByAlpha pixels opaque n p o = p
basis_long Grey pixels opaque n p o = o
basis_long OpaqueColor pixels opaque n p o = o
