-- The luma of each grey, by one computed test over the 256 greys: of the grey k it is k, and of 22 of them k - 1. So of black it is 0, and of white 255.
-- Assumes nothing.
use mathlib.Core.Path.{◌≡◌, refl}
use Prim.Native.Nat.{ℕ, ◌<◌}
use lib.Dec.{lit<}
use lib.Ieee.{round, add, mul, div, lt, of_int, to_unsigned}
use Rattle.lists.specs.Different.{has}
use Rattle.lists.proofs.Computed.{agree}
use Rattle.floats.specs.Over.{over}
use Rattle.floats.specs.Bytes.{byte_f, dot}
use Rattle.reducing.specs.Luma.{unit, luma_f32, clamp_byte, luma_u8}
use Rattle.reducing.specs.Greys.{grey, grey_luma}

pub grey_luma_lem : (k : ℕ) → k < 256 → luma_u8 (grey k) ≡ grey_luma k
unfolding round add mul div lt of_int to_unsigned over byte_f dot unit luma_f32 clamp_byte luma_u8 has grey_luma
grey_luma_lem = agree (λ k. luma_u8 (grey k)) grey_luma 256 refl

pub black_luma : luma_u8 (grey 0) ≡ 0
unfolding has grey_luma
black_luma = grey_luma_lem 0 (lit< tt)

pub white_luma : luma_u8 (grey 255) ≡ 255
unfolding has grey_luma
white_luma = grey_luma_lem 255 (lit< tt)
