-- The account speaks of one picture: over the same drawing and pixels, two accounts have the same bytes at every dithered pixel and the same
-- cells (`accounted_only`, `cells_only`); those bytes are some candidate's (`left_among`), so that a copy of another colour has none
-- (`copy_refused`). Assumes nothing.
use mathlib.Core.Path.{◌≡◌, refl, sym, ap, ◌∙◌}
use mathlib.Core.Bool.{false, not}
use mathlib.Core.List.{List}
use Prim.Native.Nat.{ℕ, ◌*◌, ◌<◌}
use borrow.Author.Tests.{not-true}
use lib.IntN.{ℤ}
use Rattle.color.specs.declared.NormalizedColor.{NormalizedColor}
use Rattle.color.specs.declared.ReducedColor.{ReducedColor}
use Rattle.color.specs.Color.{normalized_at}
use Rattle.patterns.specs.Kinds.{kernel_of}
use Rattle.diffusion.specs.Diffusion.{channel, Alike}
use Rattle.diffusion.specs.Sends.{byte_in}
use Rattle.diffusion.proofs.Unique.{unique}
use Rattle.drawing.specs.Drawing.{Drawing, Among}
use Rattle.drawing.proofs.CandidateLaws.{nearest_among}
use Rattle.account.specs.Accounted.{picture_in, left_of, Accounted}
use Rattle.account.proofs.Bytes.{byte_in_lem}
use Rattle.account.proofs.Shared.{cells_same}

module _ {d : Drawing} {pixels out out' : List ℕ} {cells cells' : List ℤ} (x : Accounted d pixels out cells) (y : Accounted d pixels out' cells') where
  pub accounted_only : (i : ℕ) → i < d.width * d.height → d.skipped i ≡ false → normalized_at out i ≡ normalized_at out' i
  accounted_only i h s =
      unique (left_of d pixels) (kernel_of d.kind) (λ a (c : NormalizedColor). byte_in a c.0) (picture_in d pixels out) (picture_in d pixels out')
      (normalized_at out) (normalized_at out')
      refl refl (λ j. refl) (λ a j A. refl) (λ a j A. sym (byte_in_lem out j a A)) (λ a j A. sym (byte_in_lem out' j a A))
      (d.width * d.height) x.chosen y.chosen i h (ap not s)

  alike : (a : ℕ) → a < 3 → Alike (channel (picture_in d pixels out) a) (channel (picture_in d pixels out') a) (d.width * d.height)
  alike a A = record {
    width = refl;
    height = refl;
    dithered = λ j h. refl;
    source = λ j h. refl;
    chosen = λ j h e. sym (byte_in_lem out j a A) ∙ ap (λ (c : NormalizedColor). byte_in a c.0) (accounted_only j h (not-true _ e)) ∙ byte_in_lem out' j a A;
  }

  pub cells_only : cells ≡ cells'
  cells_only = x.cell_buffer ∙ cells_same (kernel_of d.kind) (picture_in d pixels out) (picture_in d pixels out') alike ∙ sym y.cell_buffer

module _ {d : Drawing} {pixels : List ℕ} {cells : List ℤ} (some : 0 < d.candidates.count) (i : ℕ) (h : i < d.width * d.height)
    (s : d.skipped i ≡ false) where
  pub left_among : {out : List ℕ} → Accounted d pixels out cells → (c : ReducedColor) × Among d.candidates c × (normalized_at out i ≡ d.normalize c)
  left_among x = (_, nearest_among d.candidates some _, x.chosen i h (ap not s))

  pub copy_refused : ((c : ReducedColor) → Among d.candidates c → normalized_at pixels i ≡ d.normalize c → ⊥) → Accounted d pixels pixels cells → ⊥
  copy_refused other x = let l = left_among x in other l.0 l.1 l.2
