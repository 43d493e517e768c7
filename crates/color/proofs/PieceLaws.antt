-- Colours in lists that are made of them. Colour i of gathered bytes or floats is what was gathered (`rgba_gathered`, `oklab_gathered`); in a buffer
-- that a loop fills, a colour that it has come to is what was put there (`rgba-filled`), and another is as it was (`rgba_rest`).
-- Assumes nothing.
use mathlib.Core.Path.{◌≡◌, refl, sym, ◌∙◌, ap}
use mathlib.Core.List.{List}
use Prim.Native.Nat.{ℕ, ◌+◌, ◌*◌, ◌≤◌, ◌<◌}
use native.Mathlib.Nat.{add-zero}
use native.Mathlib.Omega.{arith}
use lib.Dec.{lit<}
use lib.ListN.{get_or}
use lib.Ieee.{Float, nan}
use Rattle.lists.specs.Gather.{gather, filled}
use Rattle.lists.proofs.GatherLaws.{gather_at, filled_at, filled_rest}
use Rattle.color.specs.declared.Rgba8888.{Rgba8888}
use Rattle.color.specs.declared.Oklab.{Oklab}
use Rattle.color.specs.Color.{rgba, rgba_at, bytes_of}
use Rattle.color.specs.Oklab.{oklab_at, floats_of}

-- the first of a piece stands where the piece begins
begins : {A : Type 0} (l : List A) (m : ℕ) (z x : A) → get_or l (m + 0) z ≡ x → get_or l m z ≡ x
begins l m z x e = ap (λ (j : ℕ). get_or l j z) (sym (add-zero m)) ∙ e

-- ---- colour i, by its four bytes or its three floats
pub rgba_is : (l : List ℕ) (i : ℕ) (c : Rgba8888) → ((j : ℕ) → j < 4 → get_or l (4 * i + j) 0 ≡ get_or (bytes_of c) j 0) → rgba_at l i ≡ c
unfolding rgba_at
rgba_is l i c at = λ t. rgba (begins l (4 * i) 0 c.r (at 0 (lit< tt)) t) (at 1 (lit< tt) t) (at 2 (lit< tt) t) (at 3 (lit< tt) t)

pub oklab_is_lem : (l : List Float) (i : ℕ) (c : Oklab) → ((j : ℕ) → j < 3 → get_or l (3 * i + j) nan ≡ get_or (floats_of c) j nan) → oklab_at l i ≡ c
unfolding oklab_at
oklab_is_lem l i c at = λ t. record { l = begins l (3 * i) nan c.l (at 0 (lit< tt)) t; a = at 1 (lit< tt) t; b = at 2 (lit< tt) t }

-- ---- in lists that are made of colours
module _ (f : ℕ → Rgba8888) where
  pub rgba_gathered : (n i : ℕ) → i < n → rgba_at (gather n (λ k. bytes_of (f k))) i ≡ f i
  rgba_gathered n i h = rgba_is _ i (f i) (λ j l. gather_at 4 (λ k. bytes_of (f k)) (λ k. refl) 0 n i j h l)

  pub rgba-filled : (d : List ℕ) (n i : ℕ) → i < n → rgba_at (filled 4 n (λ k. bytes_of (f k)) d) i ≡ f i
  rgba-filled d n i h = rgba_is _ i (f i) (λ j l. filled_at 4 (λ k. bytes_of (f k)) (λ k. refl) 0 d n i j h l)

  pub rgba_rest : (d : List ℕ) (i : ℕ) → rgba_at (filled 4 i (λ k. bytes_of (f k)) d) i ≡ rgba_at d i
  unfolding rgba_at
  rgba_rest d i =
      λ t. rgba (rest (4 * i) (omega arith) t) (rest (4 * i + 1) (omega arith) t) (rest (4 * i + 2) (omega arith) t) (rest (4 * i + 3) (omega arith) t)
    where
      rest : (m : ℕ) → 4 * i ≤ m → get_or (filled 4 i (λ k. bytes_of (f k)) d) m 0 ≡ get_or d m 0
      rest m l = filled_rest 4 (λ k. bytes_of (f k)) (λ k. refl) 0 d i m l

module _ (f : ℕ → Oklab) where
  pub oklab_gathered : (n i : ℕ) → i < n → oklab_at (gather n (λ k. floats_of (f k))) i ≡ f i
  oklab_gathered n i h = oklab_is_lem _ i (f i) (λ j l. gather_at 3 (λ k. floats_of (f k)) (λ k. refl) nan n i j h l)
