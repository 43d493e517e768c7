-- The output of a drawn picture: its length, and what stands at a pixel (`bytes_at`); filled by a loop, one pixel more and all. Assumes nothing.
use mathlib.Core.Path.{◌≡◌, refl, sym, ap, ◌∙◌}
use mathlib.Core.List.{List}
use Prim.Native.Nat.{ℕ, ◌+◌, ◌*◌, ◌≤◌, ◌<◌}
use native.Mathlib.Omega.{arith}
use lib.ListN.{length}
use lib.Seq.{sets}
use Rattle.lists.specs.Gather.{gather}
use Rattle.lists.proofs.GatherLaws.{gather-length}
use Rattle.lists.proofs.FillLaws.{Filling, fill_store, fill_done}
use Rattle.color.specs.declared.ReducedColor.{ReducedColor}
use Rattle.color.specs.Color.{reduced_at, bytes_of}
use Rattle.color.proofs.PieceLaws.{rgba_gathered}
use Rattle.drawing.specs.Drawing.{Drawing, drawn}
use Rattle.drawing.specs.Lent.{pixel_bytes, reduced_bytes}

module _ (d : Drawing) (was out : List ℕ) (i : ℕ) (long : length was ≡ 4 * (d.width * d.height)) (f : Filling 4 (pixel_bytes d) was out i) where
  pub out_more : (c : ReducedColor) (out' : List ℕ) → i < d.width * d.height → c ≡ drawn d i → out' ≡ sets out (4 * i) (bytes_of c.0)
      → Filling 4 (pixel_bytes d) was out' (i + 1)
  out_more c out' inside e stored = fill_store f (λ j. refl) (omega arith) (stored ∙ ap (λ (x : ReducedColor). sets out (4 * i) (bytes_of x.0)) e)

  pub out_all : d.width * d.height ≤ i → out ≡ reduced_bytes d
  unfolding reduced_bytes
  out_all past =
      let e : i ≡ d.width * d.height = omega (arith, f.within) in
      fill_done f (long ∙ ap (λ (n : ℕ). 4 * n) (sym e)) ∙ ap (λ (n : ℕ). gather n (pixel_bytes d)) e

-- ---- the whole output
module _ (d : Drawing) where
  pub bytes_length : length (reduced_bytes d) ≡ 4 * (d.width * d.height)
  unfolding reduced_bytes
  bytes_length = gather-length 4 (pixel_bytes d) (λ j. refl) (d.width * d.height)

  -- colour i of the output is pixel i's choice
  pub bytes_at : (i : ℕ) → i < d.width * d.height → reduced_at (reduced_bytes d) i ≡ drawn d i
  unfolding reduced_bytes
  bytes_at i h = λ t. record { 0 = rgba_gathered (λ j. (drawn d j).0) (d.width * d.height) i h t }
