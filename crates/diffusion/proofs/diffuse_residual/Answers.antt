-- `diffusion::diffuse_residual` meets its contract: an arm's kind has in the table the kernel by which the arm sends; where a kind has no kernel, or there
-- is no kind, nothing is sent. Assumes nothing.
use mathlib.Core.Path.{◌≡◌, refl, sym, ap, ◌∙◌, subst}
use mathlib.Core.List.{List, []}
use Prim.Native.Nat.{ℕ, ◌+◌, ◌*◌}
use lib.Dec.{T}
use lib.IntN.{ℤ}
use lib.ListN.{length}
use Rattle.std.specs.Prelude.{Option, Some}
use Rattle.patterns.specs.declared.Dither.{Dither}
use Rattle.patterns.specs.declared.Dither.TheVariants.{Off, Bayer2x2, Bayer4x4, Bayer8x8, Checker, StippleV, StippleH, LineV, LineH, Atkinson, FloydSteinberg}
use Rattle.patterns.specs.declared.Target.{Target}
use Rattle.patterns.specs.Kernel.{all_near}
use Rattle.patterns.specs.Kinds.{way, way_in, kernel_in, kernel_of, kind_of}
use Rattle.patterns.proofs.Kernels.{kernel_in_lem}
use Rattle.diffusion.specs.declared.spot.Spot.{Spot}
use Rattle.diffusion.specs.Scatter.{sends}
use Rattle.diffusion.specs.Sends.{Room}
use Rattle.diffusion.proofs.Scatter.{sends_same}
use Rattle.diffusion.proofs.diffuse_residual.Goals as goal

-- the kernel of a known kind
known : (kind : ℕ) {o : Option Dither} {dither d : Dither} → o ≡ Some dither → o ≡ kind_of kind → dither ≡ d → kernel_in (way d) ≡ kernel_of kind
known kind is named e = ap (λ (d : Dither). kernel_in (way d)) (sym e) ∙ ap (λ (o : Option Dither). kernel_in (way_in o)) (sym is) ∙ kernel_in_lem kind _ named

-- the last arm's kinds have none
without_kernel : (d : Dither) → (d ≡ Atkinson → ⊥) → (d ≡ FloydSteinberg → ⊥) → [] ≡ kernel_in (way d)
without_kernel Off a f = refl
without_kernel Bayer2x2 a f = refl
without_kernel Bayer4x4 a f = refl
without_kernel Bayer8x8 a f = refl
without_kernel Checker a f = refl
without_kernel StippleV a f = refl
without_kernel StippleH a f = refl
without_kernel LineV a f = refl
without_kernel LineH a f = refl
without_kernel Atkinson a f = absurd (a refl)
without_kernel FloydSteinberg a f = absurd (f refl)

module _ (cells : List ℤ) (s : Spot) (kind : ℕ) where
  abbrev sent_by : (ℕ → ℤ) → List Target → List ℤ
  sent_by rs k = sends cells rs k s.width s.height (s.y * s.width + s.x)

  -- no target, no send
  nothing : (rs : ℕ → ℤ) → [] ≡ kernel_of kind → cells ≡ sent_by rs (kernel_of kind)
  unfolding sends
  nothing rs e = ap (sent_by rs) e

  module _ (k : List Target) (e : k ≡ kernel_of kind) where
    fitting : T (all_near k) → length cells ≡ 3 * (s.width * s.height) → Room (kernel_of kind) s.width s.height (s.y * s.width + s.x) cells
        → (length cells ≡ 3 * (s.width * s.height)) × T (all_near k) × Room k s.width s.height (s.y * s.width + s.x) cells
    fitting n l v = (l, n, subst (λ (k : List Target). Room k s.width s.height (s.y * s.width + s.x) cells) (sym e) v)

    by_kind : (rs rs' : ℕ → ℤ) → ((a : ℕ) → rs a ≡ rs' a) → {left : List ℤ} → left ≡ sent_by rs k → left ≡ sent_by rs' (kernel_of kind)
    by_kind rs rs' same f = f ∙ sends_same rs rs' s.width s.height (s.y * s.width + s.x) (λ a l. same a) k cells ∙ ap (sent_by rs') e

pub returns-in_default : goal.returns-in_default
returns-in_default c =
    nothing c.args.cells.now c.args.spot c.args.kind _
    (ap (λ (o : Option Dither). kernel_in (way_in o)) (sym c.in_default.is) ∙ kernel_in_lem _ _ c.dither_of.ensures)

pub diffuse-requires : goal.diffuse-requires
diffuse-requires c =
    fitting c.args.cells.now c.args.spot c.args.kind _ (c.atkinson_kernel.ensures.targets ∙ known c.args.kind c.in-Some.is c.dither_of.ensures c.in-Atkinson.is)
    c.atkinson_kernel.ensures.close c.requires.0 c.requires.1

pub diffuse-requires-in-FloydSteinberg : goal.diffuse-requires-in-FloydSteinberg
diffuse-requires-in-FloydSteinberg c =
    fitting c.args.cells.now c.args.spot c.args.kind _ (c.floyd_steinberg_kernel.ensures.targets ∙ known c.args.kind c.in-Some.is c.dither_of.ensures c.in-FloydSteinberg.is)
    c.floyd_steinberg_kernel.ensures.close c.requires.0 c.requires.1

pub returns-in-Atkinson : goal.returns-in-Atkinson
returns-in-Atkinson c =
    by_kind c.args.cells.now c.args.spot c.args.kind _ (c.atkinson_kernel.ensures.targets ∙ known c.args.kind c.in-Some.is c.dither_of.ensures c.in-Atkinson.is)
    _ _ c.between-residual.ensures c.diffuse.ensures

pub returns-in-FloydSteinberg : goal.returns-in-FloydSteinberg
returns-in-FloydSteinberg c =
    by_kind c.args.cells.now c.args.spot c.args.kind _ (c.floyd_steinberg_kernel.ensures.targets ∙ known c.args.kind c.in-Some.is c.dither_of.ensures c.in-FloydSteinberg.is)
    _ _ c.between-residual.ensures c.diffuse-in-FloydSteinberg.ensures

pub returns-in_default-dither : goal.returns-in_default-dither
returns-in_default-dither c =
    nothing c.args.cells.now c.args.spot c.args.kind _
    (without_kernel c.in-Some.dither c.in_default-dither.not-Atkinson c.in_default-dither.not-FloydSteinberg
    ∙ known c.args.kind c.in-Some.is c.dither_of.ensures refl)
