-- The colour account of each accepted call, at the buffers that it leaves: `quantize_accounted` and `dither_accounted`. Assumes nothing.
use mathlib.Core.Path.{◌≡◌, refl, ◌∙◌}
use mathlib.Core.Bool.{true}
use mathlib.Core.List.{List}
use Prim.Native.Nat.{ℕ}
use lib.IntN.{ℤ}
use Rattle.patterns.specs.Kinds.{is_diffusion}
use Rattle.std.specs.Prelude.{None, Ok}
use Rattle.drawing.proofs.FinishedLaws.{pixel_seen, drawn_seen}
use Rattle.quantize.specs.Quantize as quantize
use Rattle.quantize.specs.Quantize.{Quantized, quantizing}
use Rattle.quantize.proofs.PixelLaws as quantize_laws
use Rattle.dither.specs.Mode as dither
use Rattle.dither.specs.Mode.{DitheredToMode, Buffers, dithering, cells_left}
use Rattle.dither.proofs.PixelLaws as dither_laws
use Rattle.account.specs.Accounted.{Accounted}
use Rattle.account.proofs.Shared.{accounted}

-- ---- `quantize_pixels`
module _ {q : quantize.Commission} {indices₀ out₀ : List ℕ} {cells₀ : List ℤ} {indices out : List ℕ} {cells : List ℤ} where
  pub quantize_accounted : Quantized q indices₀ out₀ cells₀ (Ok tt) indices out cells → is_diffusion q.kind ≡ true
      → Accounted (quantizing q) q.pixels out cells
  quantize_accounted p k =
      accounted (quantizing q) q.pixels out cells cells₀ (λ i. refl)
      (λ i h s. quantize_laws.color_here p refl i h ∙ pixel_seen (quantizing q) i (drawn_seen (quantizing q).reduced i None s))
      k p.cell_buffer

-- ---- `dither_to_mode`
module _ {q : dither.Commission} {was then : Buffers} {n : ℕ} where
  pub dither_accounted : DitheredToMode q was (Ok n) then → is_diffusion q.settings.kind ≡ true
      → Accounted (dithering q) q.pixels then.out then.cells
  unfolding cells_left
  dither_accounted p k =
      accounted (dithering q) q.pixels then.out then.cells was.cells (λ i. refl)
      (λ i h s. dither_laws.color_here p refl i h ∙ pixel_seen (dithering q) i (drawn_seen (dithering q).reduced i q.settings.zero s))
      k p.cell_buffer
