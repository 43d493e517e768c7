-- The original's scan, for any kernel whose targets come later, have weights and pass on no more than there is: its f32 cells are the sixteenths of the
-- gathered ones, and each dithered pixel chooses what it chooses by those. Assumes nothing.
use mathlib.Core.Path.{◌≡◌, refl, sym, ap, ◌∙◌}
use mathlib.Core.Bool.{Bool, true, false, cond}
use mathlib.Core.List.{List, [], ◌∷◌, map}
use Prim.Native.Nat.{ℕ, zero, suc, ◌+◌, ◌*◌, ◌≤◌, ◌<◌}
use native.Mathlib.Nat.{le_of_lt, le_refl}
use native.Mathlib.Numerals.{add-one}
use native.Mathlib.Omega.{arith}
use lib.Dec.{T, lit<}
use lib.IntN.{ℤ, pos, nat_abs, ◌-ℤ◌}
use lib.ListN.{length, get_or, replicate, length-map}
use lib.Ieee.{Float, round}
use Rattle.floats.specs.Over.{over, sixteenths}
use Rattle.floats.specs.Bytes.{zero_f}
use Rattle.floats.specs.Cells.{Cells}
use Rattle.floats.proofs.Bytes.{diff_size}
use Rattle.floats.proofs.Cells.{cell_at}
use Rattle.patterns.specs.declared.Target.{Target}
use Rattle.patterns.specs.Kernel.{total, later, weighted}
use Rattle.diffusion.specs.Biased.{biased_of}
use Rattle.diffusion.specs.Diffusion.{Picture, channel, residual_of, biased, Follows}
use Rattle.diffusion.specs.Scatter.{scatter, cell_buffer}
use Rattle.diffusion.proofs.Rounding.{biased_byte}
use Rattle.diffusion.proofs.Scatter.{scattered, holds_small, holds_room, drawn}
use Rattle.diffusion.proofs.Steps.{step_read, step_skipped, step_sent}
use Rattle.float_cells.specs.Arithmetic.{biased_f, residual_f, sixteen_times}
use Rattle.float_cells.specs.Scan.{Scene, picture_of, diffuse_f, biased_at, chosen_at, left_at, error_after, chosen_f}
use Rattle.float_cells.proofs.Arithmetic.{biased_is, residual_is, sixteen_times_lem}
use Rattle.float_cells.proofs.Sends.{Residual, diffuse_is}

-- zeros are sixteenths
zero_is : zero_f ≡ sixteenths (pos 0)
unfolding over round
zero_is = refl

zeros : (n : ℕ) → replicate n zero_f ≡ map sixteenths (replicate n (pos 0))
zeros zero = refl
zeros (suc n) = λ q. zero_is q ∷ zeros n q

-- sixteen times the sixteenths
pub times_back : (zs : List ℤ) → ((i : ℕ) → i < length zs → nat_abs (get_or zs i (pos 0)) ≤ 4080) → map sixteen_times (map sixteenths zs) ≡ zs
times_back [] small = refl
times_back (z ∷ zs) small = λ q. sixteen_times_lem z (small 0 (omega arith)) q ∷ times_back zs (λ i l. small (suc i) (omega arith)) q

module _ {X : Type 0} (s : Scene X) (k : List Target) (x : ℕ → X) (most : total k ≤ 16) (some : T (weighted k))
    (sources : (a i : ℕ) → a < 3 → s.source a i < 256) (bytes : (a : ℕ) (c : X) → a < 3 → s.bytes a c < 256)
    (follows : Follows s.rule k (picture_of s x) x (s.width * s.height)) where
  abbrev p : Picture
  p = picture_of s x

  abbrev all : ℕ
  all = s.width * s.height

  few : (a j : ℕ) → a < 3 → p.chosen a j ≤ 255
  few a j A = let h = bytes a (x j) A in omega arith

  -- pixel n's turn, where the cells are the sixteenths so far
  module _ (n : ℕ) (l : n < all) (error : List Float) (is : error ≡ map sixteenths (scatter k p n)) where
    cells : Cells 4080 error (scatter k p n)
    cells = record { is = is; small = holds_small k p most few n (scatter k p n) (scattered k p n (le_of_lt l)) }

    long : length (scatter k p n) ≡ 3 * all
    long = (scattered k p n (le_of_lt l)).size

    in_buffer : (a : ℕ) → a < 3 → 3 * n + a < length error
    in_buffer a A = omega (arith, ap length is ∙ length-map (scatter k p n) sixteenths, long)

    abbrev z : ℕ → ℤ
    z a = get_or (scatter k p n) (3 * n + a) (pos 0)

    in_scatter : (a : ℕ) → a < 3 → 3 * n + a < length (scatter k p n)
    in_scatter a A = omega (arith, long)

    biased_same : (a : ℕ) → a < 3 → biased_at s error n a ≡ biased_of (s.source a n) (z a)
    biased_same a A =
        ap (biased_f (s.source a n)) (cell_at 4080 error (scatter k p n) (3 * n + a) cells (in_buffer a A)).is
        ∙ biased_is (s.source a n) (z a) (sources a n A) (cells.small (3 * n + a) (in_scatter a A))

    biased_here : (a : ℕ) → a < 3 → biased_at s error n a ≡ biased k (channel p a) n
    unfolding biased
    biased_here a A = biased_same a A ∙ ap (biased_of (s.source a n)) (step_read k p a n A l)

    pub chosen_here : s.dithered n ≡ true → chosen_at s error n ≡ x n
    chosen_here d =
        (λ q. s.rule n (biased_here 0 (lit< tt) q) (biased_here 1 (lit< tt) q) (biased_here 2 (lit< tt) q)) ∙ sym (follows n l d)

    -- the residuals that it passes on
    abbrev rs : ℕ → ℤ
    rs a = pos (biased_of (s.source a n) (z a)) -ℤ pos (s.bytes a (x n))

    residuals : s.dithered n ≡ true → (a : ℕ) → a < 3 → Residual (rs a) (left_at s error n a)
    residuals d a A =
        let byte : biased_of (s.source a n) (z a) < 256 = let h = biased_byte (s.source a n) (z a) in omega arith in
        record {
          is =
              (λ q. residual_f (biased_same a A q) (s.bytes a (chosen_here d q)))
              ∙ residual_is (biased_of (s.source a n) (z a)) (s.bytes a (x n)) byte (bytes a (x n) A);
          small = diff_size (biased_of (s.source a n) (z a)) (s.bytes a (x n)) byte (bytes a (x n) A);
        }

    passed : s.dithered n ≡ true → diffuse_f error (left_at s error n) k s.width s.height n ≡ map sixteenths (scatter k p (n + 1))
    unfolding residual_of
    passed d =
        ap (λ (v : List Float). diffuse_f v (left_at s error n) k s.width s.height n) is
        ∙ diffuse_is rs (left_at s error n) (residuals d) s.width s.height n k (scatter k p n) some long
        (holds_room k p most few n (scatter k p n) (scattered k p n (le_of_lt l)))
        ∙ ap (map sixteenths) (step_sent k p n rs (λ a A. rw d))

  -- ---- the cells after each pixel
  pub same_cells : (n : ℕ) → n ≤ all → error_after s k n ≡ map sixteenths (scatter k p n)
  unfolding error_after
  same_cells zero l = unfold scatter in zeros (3 * all)
  same_cells (suc n) l = go (same_cells n (omega arith)) (s.dithered n) refl
    where
      go : error_after s k n ≡ map sixteenths (scatter k p n) → (b : Bool) → s.dithered n ≡ b
          → cond b (diffuse_f (error_after s k n) (left_at s (error_after s k n) n) k s.width s.height n) (error_after s k n)
          ≡ map sixteenths (scatter k p (suc n))
      go before true d = passed n l (error_after s k n) before d ∙ ap (λ (m : ℕ). map sixteenths (scatter k p m)) (add-one n)
      go before false d = before ∙ ap (map sixteenths) (sym (ap (scatter k p) (sym (add-one n)) ∙ step_skipped k p n d))

  -- ---- the choices
  pub same_choice : (i : ℕ) → i < all → s.dithered i ≡ true → chosen_f s k i ≡ x i
  unfolding chosen_f
  same_choice i l d = chosen_here i l (error_after s k i) (same_cells i (le_of_lt l)) d

  -- ---- at the end
  pub same_buffer : T (later k) → error_after s k all ≡ map sixteenths (cell_buffer k p)
  same_buffer f = same_cells all (le_refl all) ∙ ap (map sixteenths) (drawn k p f)

  pub same_counts : T (later k) → map sixteen_times (error_after s k all) ≡ cell_buffer k p
  same_counts f =
      ap (map sixteen_times) (same_cells all (le_refl all))
      ∙ times_back (scatter k p all) (holds_small k p most few all (scatter k p all) (scattered k p all (le_refl all)))
      ∙ drawn k p f
