-- The one theorem of both calls: where a drawing diffuses, and its choices are left normalised, the buffers are accounted for. What the drawing's
-- own picture tells of its cells and choices is so of the picture that the buffers hold, as the two are alike. Assumes nothing.
use mathlib.Core.Path.{◌≡◌, refl, sym, ap, ◌∙◌}
use mathlib.Core.Bool.{true, false}
use mathlib.Core.List.{List, [], ◌∷◌}
use Prim.Native.Nat.{ℕ, ◌+◌, ◌*◌, ◌<◌}
use native.Mathlib.Nat.{le_refl, le_of_lt}
use borrow.Author.Tests.{not-true}
use lib.Dec.{T, lit<}
use lib.IntN.{ℤ, pos}
use lib.ListN.{get_or}
use Rattle.lists.specs.Gather.{gather}
use Rattle.lists.proofs.GatherLaws.{gather_same}
use Rattle.color.specs.declared.NormalizedColor.{NormalizedColor}
use Rattle.color.specs.Color.{rgba, rgba_at, normalized_at}
use Rattle.patterns.specs.declared.Target.{Target}
use Rattle.patterns.specs.Kernel.{later}
use Rattle.patterns.specs.Kinds.{kernel_of, held_of, is_diffusion}
use Rattle.patterns.proofs.Kernels.{kernel_later, kernel_total, kernel_whole}
use Rattle.diffusion.specs.Diffusion.{Picture, channel, cell, Alike, Follows}
use Rattle.diffusion.specs.Sends.{byte_in}
use Rattle.diffusion.specs.Scatter.{cells_at, cell_buffer}
use Rattle.diffusion.proofs.Received.{settled, fewer, cell_same}
use Rattle.diffusion.proofs.Scatter.{scattered, drawn as buffer_drawn}
use Rattle.diffusion.proofs.Unique.{follows_kept}
use Rattle.diffusion.proofs.Account.{account}
use Rattle.diffusion.proofs.Loss.{loss_range}
use Rattle.diffusion.proofs.Steps.{buffer_small}
use Rattle.drawing.specs.Drawing.{Drawing, nearest_color, picture_of, biased_at, drawn}
use Rattle.drawing.specs.Lent.{cells_after}
use Rattle.drawing.proofs.DrawnLaws.{drawn_diffused}
use Rattle.account.specs.Accounted.{picture_in, left_of, cell_in, Accounted}
use Rattle.account.proofs.Bytes.{byte_in_lem}

-- pictures that are alike have the same cells
pub cells_same : (k : List Target) (p p' : Picture) → ((a : ℕ) → a < 3 → Alike (channel p a) (channel p' a) (p.width * p.height))
    → cell_buffer k p ≡ cell_buffer k p'
unfolding cell_buffer
cells_same k p p' s =
    gather_same (p.width * p.height) (λ i h t. one i h 0 (lit< tt) t ∷ one i h 1 (lit< tt) t ∷ one i h 2 (lit< tt) t ∷ [])
    ∙ (λ t. gather ((s 0 (lit< tt)).width t * (s 0 (lit< tt)).height t) (cells_at k p'))
  where
    one : (i : ℕ) → i < p.width * p.height → (a : ℕ) → a < 3 → cell k (channel p a) i ≡ cell k (channel p' a) i
    one i h a A = cell_same (channel p a) (channel p' a) k i (fewer (channel p a) (channel p' a) (p.width * p.height) i (le_of_lt h) (s a A))

-- a picture's cells, read from a buffer that holds them
pub cells_read : (k : List Target) (p : Picture) (cells : List ℤ) → T (later k) → cells ≡ cell_buffer k p → (a i : ℕ) → a < 3 → i < p.width * p.height
    → cell_in cells a i ≡ cell k (channel p a) i
cells_read k p cells s e a i A h =
    let all : ℕ = p.width * p.height in
    ap (λ (v : List ℤ). get_or v (3 * i + a) (pos 0)) (e ∙ sym (buffer_drawn k p s))
    ∙ (scattered k p all (le_refl all)).each a i A h
    ∙ settled k (channel p a) s all i (le_of_lt h)

-- ---- a picture of demand 2 has its account, whatever drew it
module _ (d : Drawing) (pixels out : List ℕ) (cells : List ℤ) (kind : is_diffusion d.kind ≡ true) where
  from_picture : Follows (left_of d pixels) (kernel_of d.kind) (picture_in d pixels out) (normalized_at out) (d.width * d.height)
      → cells ≡ cell_buffer (kernel_of d.kind) (picture_in d pixels out) → Accounted d pixels out cells
  from_picture chosen spent =
      let k = kernel_of d.kind in
      let p = picture_in d pixels out in
      record {
        chosen = chosen;
        cell_buffer = spent;
        cells_within = λ bytes. buffer_small k p (kernel_later d.kind) (kernel_total d.kind) (λ a j A. bytes _) cells spent;
        balanced = λ a A.
            account k (held_of d.kind) (channel p a) (kernel_later d.kind) (kernel_whole d.kind kind) (cell_in cells a)
            (λ i h. cells_read k p cells (kernel_later d.kind) spent a i A h);
        all_sixteen = kernel_whole d.kind kind;
        small = λ a i A u. let l = loss_range _ _ u.low u.high in record { low = l.0; high = l.1 };
      }

-- ---- a drawn picture that is left normalised is one of demand 2
module _ (d : Drawing) (pixels out : List ℕ) (cells was : List ℤ) (source : (i : ℕ) → d.source i ≡ normalized_at pixels i)
    (left : (i : ℕ) → i < d.width * d.height → d.skipped i ≡ false → normalized_at out i ≡ d.normalize (drawn d i))
    (kind : is_diffusion d.kind ≡ true) where
  -- the drawing's own picture and the buffers' one are alike
  alike : (a : ℕ) → a < 3 → Alike (channel (picture_of d (drawn d)) a) (channel (picture_in d pixels out) a) (d.width * d.height)
  alike a A = record {
    width = refl;
    height = refl;
    dithered = λ j h. refl;
    source = λ j h. ap (λ (c : NormalizedColor). byte_in a c.0) (source j) ∙ byte_in_lem pixels j a A;
    chosen = λ j h e. sym (ap (λ (c : NormalizedColor). byte_in a c.0) (left j h (not-true _ e))) ∙ byte_in_lem out j a A;
  }

  -- in the drawing's own picture each choice is the nearest to its biased colour
  follows : Follows (left_of d pixels) (kernel_of d.kind) (picture_of d (drawn d)) (λ i. d.normalize (drawn d i)) (d.width * d.height)
  unfolding biased_at rgba_at
  follows i h e =
      ap d.normalize (drawn_diffused d i (not-true _ e) kind)
      ∙ (λ t. d.normalize (nearest_color d.candidates
      (record { 0 = rgba (biased_at d (drawn d) i).0.r (biased_at d (drawn d) i).0.g (biased_at d (drawn d) i).0.b (source i t).0.a })))

  pub accounted : cells ≡ cells_after d was → Accounted d pixels out cells
  unfolding cells_after
  accounted e =
      from_picture d pixels out cells kind
      (follows_kept (left_of d pixels) (kernel_of d.kind) (picture_of d (drawn d)) (picture_in d pixels out) (λ i. d.normalize (drawn d i))
      (normalized_at out) (d.width * d.height) alike (λ i h s. sym (left i h (not-true _ s))) follows)
      (e ∙ rw kind (cells_same (kernel_of d.kind) (picture_of d (drawn d)) (picture_in d pixels out) alike))
