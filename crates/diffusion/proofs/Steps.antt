-- The steps of a scan over the pixels, whose lent buffer is, before the pixel n, `scatter k p n`: how it begins, what holds of its cells, what the
-- pixel reads, what a skipped and a dithered pixel leave behind, and how it ends. Stated over plain parameters, for a loop's invariant. Assumes
-- nothing.
use mathlib.Core.Path.{◌≡◌, refl, sym, ap, ◌∙◌, subst}
use mathlib.Core.Bool.{true, false, cond}
use mathlib.Core.List.{List}
use Prim.Native.Nat.{ℕ, ◌+◌, ◌*◌, ◌≤◌, ◌<◌}
use native.Mathlib.Nat.{add-zero, le_refl, le_of_lt}
use native.Mathlib.Numerals.{add-one}
use lib.Dec.{T}
use lib.IntN.{ℤ, pos, nat_abs, ◌-ℤ◌}
use lib.ListN.{length, get_or, replicate}
use Rattle.color.specs.declared.NormalizedColor.{NormalizedColor}
use Rattle.patterns.specs.declared.Target.{Target}
use Rattle.patterns.specs.Kernel.{total, later}
use Rattle.diffusion.specs.Biased.{biased_of, biased_color}
use Rattle.diffusion.specs.Diffusion.{Picture, channel, residual_of, cell, biased}
use Rattle.diffusion.specs.Scatter.{sends, left_over, scatter, cell_buffer}
use Rattle.diffusion.specs.Sends.{byte_in, residuals_of, Room}
use Rattle.diffusion.proofs.Channels.{by_channel}
use Rattle.diffusion.proofs.Scatter.{sends_same, sends_none, scattered, holds_small, holds_room, drawn}

-- the byte of a biased colour
pub biased_in_lem : (color : NormalizedColor) (cells : List ℤ) (i a : ℕ) → a < 3
    → byte_in a (biased_color color cells i).0 ≡ biased_of (byte_in a color.0) (get_or cells (3 * i + a) (pos 0))
biased_in_lem color cells i =
    by_channel (λ a. byte_in a (biased_color color cells i).0 ≡ biased_of (byte_in a color.0) (get_or cells (3 * i + a) (pos 0)))
    (ap (λ (m : ℕ). biased_of color.0.r (get_or cells m (pos 0))) (sym (add-zero (3 * i))))
    refl
    refl

module _ (k : List Target) (p : Picture) where
  -- zeroed cells are the buffer before the first pixel
  pub step_begin : (m : ℕ) (cells : List ℤ) → m ≡ 3 * (p.width * p.height) → cells ≡ replicate m (pos 0) → cells ≡ scatter k p 0
  unfolding scatter
  step_begin m cells e z = z ∙ ap (λ (m : ℕ). replicate m (pos 0)) e

  module _ (n : ℕ) (l : n ≤ p.width * p.height) (cells : List ℤ) (is : cells ≡ scatter k p n) where
    pub step_length : length cells ≡ 3 * (p.width * p.height)
    step_length = ap length is ∙ (scattered k p n l).size

    pub step_room : total k ≤ 16 → ((a j : ℕ) → a < 3 → p.chosen a j ≤ 255) → Room k p.width p.height n cells
    step_room t bytes = subst (Room k p.width p.height n) (sym is) (holds_room k p t bytes n (scatter k p n) (scattered k p n l))

  -- what the pixel n reads is its cell, and its biased byte is what the definition says
  pub step_read : (a n : ℕ) → a < 3 → n < p.width * p.height → get_or (scatter k p n) (3 * n + a) (pos 0) ≡ cell k (channel p a) n
  unfolding cell
  step_read a n A l = (scattered k p n (le_of_lt l)).each a n A l

  pub step_biased : (a n : ℕ) (color : NormalizedColor) → a < 3 → n < p.width * p.height → p.source a n ≡ byte_in a color.0
      → byte_in a (biased_color color (scatter k p n) n).0 ≡ biased k (channel p a) n
  unfolding biased
  step_biased a n color A l S = biased_in_lem color (scatter k p n) n a A ∙ (λ q. biased_of (sym S q) (step_read a n A l q))

  -- a skipped pixel passes nothing on
  pub step_skipped : (n : ℕ) → p.dithered n ≡ false → scatter k p (n + 1) ≡ scatter k p n
  unfolding scatter residual_of
  step_skipped n d =
      ap (scatter k p) (add-one n)
      ∙ sends_same (left_over p n (scatter k p n)) (λ a. pos 0) p.width p.height n (λ a A. rw d) k (scatter k p n)
      ∙ sends_none p.width p.height n k (scatter k p n)

  -- a pixel that sends its residuals
  pub step_sent : (n : ℕ) (rs : ℕ → ℤ) → ((a : ℕ) → a < 3 → rs a ≡ left_over p n (scatter k p n) a)
      → sends (scatter k p n) rs k p.width p.height n ≡ scatter k p (n + 1)
  unfolding scatter
  step_sent n rs R = sends_same rs (left_over p n (scatter k p n)) p.width p.height n R k (scatter k p n) ∙ ap (scatter k p) (sym (add-one n))

  -- a dithered pixel, by its colours: what `diffuse_residual` leaves, with the biased colour that the buffer gave and the chosen one
  pub step_dithered : (n x y : ℕ) (color chosen : NormalizedColor) (cells : List ℤ) → y * p.width + x ≡ n → p.dithered n ≡ true
      → ((a : ℕ) → a < 3 → p.source a n ≡ byte_in a color.0) → ((a : ℕ) → a < 3 → p.chosen a n ≡ byte_in a chosen.0)
      → cells ≡ sends (scatter k p n) (residuals_of (biased_color color (scatter k p n) n).0 chosen.0) k p.width p.height (y * p.width + x)
      → cells ≡ scatter k p (n + 1)
  unfolding residual_of
  step_dithered n x y color chosen cells at d S C is =
      is ∙ ap (λ (j : ℕ). sends (scatter k p n) rs k p.width p.height j) at ∙ step_sent n rs left
    where
      rs : ℕ → ℤ
      rs = residuals_of (biased_color color (scatter k p n) n).0 chosen.0

      left : (a : ℕ) → a < 3 → rs a ≡ left_over p n (scatter k p n) a
      left a A =
          (λ q. pos (biased_in_lem color (scatter k p n) n a A q) -ℤ pos (sym (C a A) q))
          ∙ (λ q. cond (sym d q) (pos (biased_of (sym (S a A) q) (get_or (scatter k p n) (3 * n + a) (pos 0))) -ℤ pos (p.chosen a n)) (pos 0))

  -- after the last pixel the buffer holds the picture's cells
  pub step_end : T (later k) → (cells : List ℤ) → cells ≡ scatter k p (p.width * p.height) → cells ≡ cell_buffer k p
  step_end s cells is = is ∙ drawn k p s

  -- and so the picture's cells are within 255 either way
  pub buffer_small : T (later k) → total k ≤ 16 → ((a j : ℕ) → a < 3 → p.chosen a j ≤ 255) → (cells : List ℤ) → cells ≡ cell_buffer k p
      → (q : ℕ) → q < length cells → nat_abs (get_or cells q (pos 0)) ≤ 4080
  buffer_small s t bytes cells is =
      let all : ℕ = p.width * p.height in
      subst (λ (v : List ℤ). (q : ℕ) → q < length v → nat_abs (get_or v q (pos 0)) ≤ 4080) (drawn k p s ∙ sym is)
      (holds_small k p t bytes all (scatter k p all) (scattered k p all (le_refl all)))
