-- The three channels, and the places of a buffer with three cells a pixel: what holds of each channel of each pixel holds everywhere. Assumes
-- nothing.
use mathlib.Core.Path.{◌≡◌, subst}
use Prim.Native.Nat.{ℕ, zero, suc, ◌+◌, ◌*◌, ◌/◌, ◌%◌, ◌<◌}
use native.Mathlib.Omega.{arith}

pub by_channel : (P : ℕ → Type 0) → P 0 → P 1 → P 2 → (a : ℕ) → a < 3 → P a
by_channel P r g b zero A = r
by_channel P r g b (suc zero) A = g
by_channel P r g b (suc (suc zero)) A = b
by_channel P r g b (suc (suc (suc a))) A = absurd (past a A)
  where
    past : (a : ℕ) → suc (suc (suc a)) < 3 → ⊥
    past a A = omega arith

pub by_pixel : (P : ℕ → Type 0) (n : ℕ) → ((a i : ℕ) → a < 3 → i < n → P (3 * i + a)) → (q : ℕ) → q < 3 * n → P q
by_pixel P n each q l = subst P whole (each (q % 3) (q / 3) (omega arith) (omega arith))
  where
    whole : 3 * (q / 3) + q % 3 ≡ q
    whole = omega arith
