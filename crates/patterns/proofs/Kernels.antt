-- The kernels of the table: of every kind's kernel the targets come later in the scan and have weights, and it passes on no more than there is; what a diffusion kind
-- passes on and holds back are all sixteen sixteenths. Assumes nothing.
use mathlib.Core.Path.{◌≡◌, refl, ap, subst}
use mathlib.Core.Bool.{Bool, true, not, ◌||◌}
use Prim.Native.Nat.{ℕ, ◌+◌, ◌≤◌}
use lib.Dec.{T, eqb, leb, leb→le, eqb→eq}
use Rattle.std.specs.Prelude.{Option}
use Rattle.patterns.specs.declared.Dither.{Dither}
use Rattle.patterns.specs.Kernel.{total, positive, comes_later, later, weighted}
use Rattle.patterns.specs.Kinds.{kind_of, way_in, way_of, has_kernel, kernel_in, held_in, is_diffusion, kernel_of, held_of}
use Rattle.patterns.proofs.Numbers.{of_all}

-- the kernel, by what the number stands for
pub kernel_in_lem : (k : ℕ) (r : Option Dither) → r ≡ kind_of k → kernel_in (way_in r) ≡ kernel_of k
unfolding kernel_of way_of
kernel_in_lem k r e = ap (λ (v : Option Dither). kernel_in (way_in v)) e

pub kernel_later : (kind : ℕ) → T (later (kernel_of kind))
unfolding kernel_of way_of kind_of later comes_later positive
kernel_later kind = of_all (λ w. later (kernel_in w)) refl refl kind

pub kernel_weighted : (kind : ℕ) → T (weighted (kernel_of kind))
unfolding kernel_of way_of kind_of weighted
kernel_weighted kind = of_all (λ w. weighted (kernel_in w)) refl refl kind

pub kernel_total : (kind : ℕ) → total (kernel_of kind) ≤ 16
unfolding kernel_of way_of kind_of total
kernel_total kind = leb→le (total (kernel_of kind)) 16 (of_all (λ w. leb (total (kernel_in w)) 16) refl refl kind)

pub kernel_whole : (kind : ℕ) → is_diffusion kind ≡ true → total (kernel_of kind) + held_of kind ≡ 16
unfolding is_diffusion kernel_of held_of way_of kind_of total
kernel_whole kind d =
    let t = of_all (λ w. not (has_kernel w) || eqb (total (kernel_in w) + held_in w) 16) refl refl kind in
    eqb→eq (total (kernel_of kind) + held_of kind) 16 (subst (λ (b : Bool). T (not b || eqb (total (kernel_of kind) + held_of kind) 16)) d t)
