-- The luma of a colour is monotone: more of a channel gives no less luma (`luma_monotone`). Each operation of it is, and the clamp changes nothing that is
-- cut (`clamp_cut`). Assumes nothing.
use mathlib.Core.Path.{◌≡◌, refl, sym}
use mathlib.Core.Bool.{Bool, true, false, cond}
use Prim.Native.Nat.{ℕ, ◌*◌, ◌/◌, ◌≤◌, ◌<◌, min}
use native.Mathlib.Nat.{min-eq_right, le-div_iff_mul-le}
use native.Mathlib.Omega.{arith}
use lib.IntN.{ℤ}
use lib.Dec.{T, ltb→lt, lit≤, lit<}
use lib.Ieee.{Float, fin, binary32, up, down, round, mul, lt, of_int, to_unsigned}
use lib.Ieee.Fits.{down_pos}
use Rattle.floats.specs.Bytes.{zero_f, byte_f, dot}
use Rattle.floats.proofs.Monotone.{Under, under, byte_under, over_under, mul_under, add_under, div_under, cut_under}
use Rattle.color.specs.declared.NormalizedColor.{NormalizedColor}
use Rattle.reducing.specs.Luma.{unit, share, luma_f32, clamp_byte, cut_byte, luma_u8}
use Rattle.reducing.proofs.CutLaws.{byte_value}
use Rattle.reducing.proofs.LumaLaws.{Bytes}

unit_under : (v w : ℕ) → v ≤ w → w < 256 → Under 1 (unit v) (unit w)
unfolding unit
unit_under v w h k = div_under 255 1 255 (byte_f 255) (lit< tt) (lit≤ tt) (lit≤ tt) (byte_value 255 (lit< tt)) (byte_under v w h k)

-- a channel's part
term_under : (n v w : ℕ) → n ≤ 10000 → v ≤ w → w < 256 → Under 1 (mul binary32 (unit v) (share n)) (mul binary32 (unit w) (share n))
term_under n v w s h k = mul_under 1 1 (lit≤ tt) (unit_under v w h k) (over_under 1 10000 n n (lit< tt) (lit≤ tt) (omega arith) (omega arith))

luma_under : (c d : NormalizedColor) → Bytes d → c.0.r ≤ d.0.r → c.0.g ≤ d.0.g → c.0.b ≤ d.0.b → Under 3 (luma_f32 c) (luma_f32 d)
unfolding luma_f32 dot
luma_under c d b r g l =
    add_under 2 1 (lit≤ tt)
    (add_under 1 1 (lit≤ tt) (term_under 2126 c.0.r d.0.r (lit≤ tt) r b.red) (term_under 7152 c.0.g d.0.g (lit≤ tt) g b.green))
    (term_under 722 c.0.b d.0.b (lit≤ tt) l b.blue)

-- `as u8` clamps by itself
clamp_cut : (m : ℕ) (e : ℤ) → cut_byte (clamp_byte (fin false m e)) ≡ cut_byte (fin false m e)
unfolding clamp_byte byte_f of_int round lt to_unsigned
clamp_cut m e =
    go (lt (fin false m e) zero_f) (lt (byte_f 255) (fin false m e)) (ltb→lt (m * up e * 1) (0 * down e)) (ltb→lt (255 * 1 * down e) (m * up e * 1))
  where
    go : (s t : Bool) → (T s → m * up e * 1 < 0 * down e) → (T t → 255 * 1 * down e < m * up e * 1)
        → cut_byte (cond s zero_f (cond t (byte_f 255) (fin false m e))) ≡ min (m * up e / down e) 255
    go true t f g = let h = f tt in omega arith
    go false true f g = let h = g tt in sym (min-eq_right ((le-div_iff_mul-le (down_pos e)).1 (omega arith)))
    go false false f g = refl

pub luma_monotone : (c d : NormalizedColor) → Bytes d → c.0.r ≤ d.0.r → c.0.g ≤ d.0.g → c.0.b ≤ d.0.b → luma_u8 c ≤ luma_u8 d
unfolding luma_u8
luma_monotone c d q r g l = go (mul_under 3 255 (lit≤ tt) (luma_under c d q r g l) (byte_under 255 255 (omega arith) (lit< tt)))
  where
    go : {x y : Float} → Under 765 x y → cut_byte (clamp_byte x) ≤ cut_byte (clamp_byte y)
    go (under m e n d h k) = rw (clamp_cut m e, clamp_cut n d) (cut_under 765 8 (under m e n d h k))
