-- Bits that are a float's and no NaN's. Assumes nothing.
use mathlib.Core.Path.{◌∙◌, sym, subst}
use mathlib.Core.Bool.{Bool, not}
use Prim.Native.Nat.{ℕ, ◌%◌, ◌<◌}
use native.Mathlib.Omega.{arith}
use borrow.Author.Tests.{le-ltb}
use lib.Dec.{T}
use lib.Ieee.{binary64, nan_bits}
use lib.Ieee.Bits.{nan_bits_above}

-- a pattern below infinity's is no NaN's
pub no_nan_bits : (p : ℕ) → p < 0x7ff0_0000_0000_0000 → T (not (nan_bits binary64 p))
no_nan_bits p h =
    subst (λ (b : Bool). T (not b)) (sym (nan_bits_above binary64 p ∙ le-ltb 0x7ff0_0000_0000_0000 (p % 0x8000_0000_0000_0000) (omega arith))) tt
