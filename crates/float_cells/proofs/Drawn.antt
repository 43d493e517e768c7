-- The picture that the original's f32 cells draw is the one that is drawn, and sixteen times its cells are the cells; for every kind, by the one
-- argument over its kernel. Assumes nothing.
use mathlib.Core.Path.{◌≡◌, refl, sym, ap}
use mathlib.Core.Bool.{Bool, true, false, cond, not}
use mathlib.Core.List.{List, map}
use Prim.Native.Nat.{ℕ, zero, suc, ◌+◌, ◌*◌, ◌/◌, ◌%◌, ◌<◌}
use native.Mathlib.Omega.{arith}
use borrow.Author.Tests.{not-true}
use lib.IntN.{ℤ}
use lib.Ieee.{Float}
use Rattle.floats.specs.Over.{sixteenths}
use Rattle.color.specs.declared.ReducedColor.{ReducedColor}
use Rattle.color.specs.Color.{rgba_at}
use Rattle.color.specs.Tables.{normalize_color}
use Rattle.picture.specs.Pixels.{source_at}
use Rattle.patterns.specs.Kinds.{is_diffusion, kernel_of}
use Rattle.patterns.proofs.Kernels.{kernel_later, kernel_total, kernel_weighted}
use Rattle.diffusion.specs.Diffusion.{Follows}
use Rattle.diffusion.specs.Sends.{byte_in}
use Rattle.drawing.specs.Drawing.{Drawing, color_at, biased_at, drawn}
use Rattle.drawing.specs.Lent.{cells_after}
use Rattle.drawing.proofs.TurnLaws as turns
use Rattle.drawing.proofs.DrawnLaws.{drawn_skipped, drawn_plain, drawn_diffused}
use Rattle.float_cells.specs.Arithmetic.{sixteen_times}
use Rattle.float_cells.specs.Scan.{picture_of, chosen_f}
use Rattle.float_cells.specs.Drawn.{scene_of, drawn_f, error_f, Bytes}
use Rattle.float_cells.proofs.Scan.{same_choice, same_buffer, same_counts}

-- ---- the bytes of a source and of a normalised colour
pub source_byte : (pixels : List ℕ) → Bytes pixels → (a i : ℕ) → byte_in a (source_at pixels i).0 < 256
unfolding rgba_at
source_byte pixels bytes zero i = let h = bytes (4 * i) in omega arith
source_byte pixels bytes (suc zero) i = let h = bytes (4 * i + 1) in omega arith
source_byte pixels bytes (suc (suc a)) i = let h = bytes (4 * i + 2) in omega arith

pub scaled_byte : (scale : List ℕ) → Bytes scale → (a : ℕ) (c : ReducedColor) → byte_in a (normalize_color scale c).0 < 256
scaled_byte scale bytes a c = let h = turns.scaled_byte scale bytes a c in omega arith

module _ (d : Drawing) (sources : (a i : ℕ) → byte_in a (d.source i).0 < 256) (bytes : (a : ℕ) (c : ReducedColor) → byte_in a (d.normalize c).0 < 256) where
  -- where error is diffused, each choice is the nearest to its biased colour
  follows : is_diffusion d.kind ≡ true
      → Follows (scene_of d).rule (kernel_of d.kind) (picture_of (scene_of d) (drawn d)) (drawn d) (d.width * d.height)
  unfolding biased_at
  follows k i h e = drawn_diffused d i (not-true _ e) k

  -- ---- the same picture
  pub drawn_same : (i : ℕ) → i < d.width * d.height → drawn_f d i ≡ drawn d i
  unfolding drawn_f
  drawn_same i l = go (d.skipped i) refl (is_diffusion d.kind) refl
    where
      go : (b : Bool) → d.skipped i ≡ b → (k : Bool) → is_diffusion d.kind ≡ k
          → cond b (d.reduced i)
          (cond k (chosen_f (scene_of d) (kernel_of d.kind) i)
          (color_at d.candidates d.kind d.bracket_width (d.origin_x + i % d.width) (d.origin_y + i / d.width) (d.source i)))
          ≡ drawn d i
      go true s k K = sym (drawn_skipped d i s)
      go false s true K =
          same_choice (scene_of d) (kernel_of d.kind) (drawn d) (kernel_total d.kind) (kernel_weighted d.kind) (λ a j A. sources a j)
          (λ a c A. bytes a c) (follows K) i l (ap not s)
      go false s false K = sym (drawn_plain d i s K)

  -- ---- and its cells
  module _ (k : is_diffusion d.kind ≡ true) where
    pub error_sixteenths : (was : List Float) (was' : List ℤ) → error_f d was ≡ map sixteenths (cells_after d was')
    unfolding error_f cells_after
    error_sixteenths was was' =
        rw k (same_buffer (scene_of d) (kernel_of d.kind) (drawn d) (kernel_total d.kind) (kernel_weighted d.kind) (λ a j A. sources a j)
        (λ a c A. bytes a c) (follows k) (kernel_later d.kind))

    pub error_counts : (was : List Float) (was' : List ℤ) → map sixteen_times (error_f d was) ≡ cells_after d was'
    unfolding error_f cells_after
    error_counts was was' =
        rw k (same_counts (scene_of d) (kernel_of d.kind) (drawn d) (kernel_total d.kind) (kernel_weighted d.kind) (λ a j A. sources a j)
        (λ a c A. bytes a c) (follows k) (kernel_later d.kind))
