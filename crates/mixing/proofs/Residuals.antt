-- `mix_residual` of bytes at a share from 0 to 1 is finite, at most 3,121,200, not negative and not -0, so ordinary comparison puts such errors in
-- their order. Assumes nothing.
use Prim.Native.Nat.{ℕ, ◌<◌}
use lib.Dec.{lit≤}
use lib.Ieee.{Float, binary32, sub, mul}
use Rattle.color.specs.declared.NormalizedColor.{NormalizedColor}
use Rattle.floats.specs.Bounds.{Within, Upto}
use Rattle.floats.specs.Bytes.{byte_f}
use Rattle.floats.proofs.Within.{mul_within, add_within, sub_within}
use Rattle.floats.proofs.Bytes.{byte_within, diff_within}
use Rattle.floats.proofs.Dot.{square-dot}
use Rattle.mixing.specs.Lerp.{byte_minus, mix_of, mix_residual, Bytes}

mix_within : (c1 c2 : ℕ) (t : Float) → c1 < 256 → c2 < 256 → Within 1 t → Within 765 (mix_of c1 c2 t)
unfolding mix_of byte_minus
mix_within c1 c2 t A B h =
    add_within 255 510 (byte_f c1) (mul binary32 t (byte_minus c2 c1)) (lit≤ tt) (byte_within c1 A)
    (mul_within 1 510 t (byte_minus c2 c1) (lit≤ tt) h (diff_within c2 c1 B A))

-- the error in one channel
error_within : (c c1 c2 : ℕ) (t : Float) → c < 256 → c1 < 256 → c2 < 256 → Within 1 t → Within 1020 (sub binary32 (byte_f c) (mix_of c1 c2 t))
error_within c c1 c2 t C A B h = sub_within 255 765 (byte_f c) (mix_of c1 c2 t) (lit≤ tt) (byte_within c C) (mix_within c1 c2 t A B h)

module _ (a b : NormalizedColor) (t : Float) (color : NormalizedColor) where
  pub residual_upto : Bytes a → Bytes b → Within 1 t → Bytes color → Upto 3121200 (mix_residual a b t color)
  unfolding mix_residual
  residual_upto A B h C =
      square-dot 1020 _ _ _ (lit≤ tt) (error_within color.0.r a.0.r b.0.r t C.r A.r B.r h)
      (error_within color.0.g a.0.g b.0.g t C.g A.g B.g h)
      (error_within color.0.b a.0.b b.0.b t C.b A.b B.b h)
