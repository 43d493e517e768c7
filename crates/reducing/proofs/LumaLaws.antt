-- The luma of a colour: no operation of it gives a NaN, an infinity or a negative value, and what is cut lies from 0 to 255 (`luma_upto`). Assumes nothing.
use mathlib.Core.Path.{◌≡◌, refl, sym, subst}
use Prim.Native.Nat.{ℕ, ◌*◌, ◌≤◌, ◌<◌}
use native.Mathlib.Nat.{le_trans, le_of_eq, mul-one, one-mul}
use native.Mathlib.Omega.{arith}
use mathlib.Core.Bool.{Bool, true, false, cond, true≢false}
use lib.Dec.{lit≤, lit<}
use lib.Ieee.{Float, nan, inf, fin, binary32, up, down, mul, lt, of_int}
use lib.Ieee.Fits.{down_pos}
use lib.Ieee.Exact.{HasValue}
use borrow.Author.Tests.{ltb-false}
use Rattle.floats.specs.Over.{over}
use Rattle.floats.specs.Bounds.{Upto}
use Rattle.floats.specs.Bytes.{zero_f, byte_f, dot}
use Rattle.floats.proofs.At.{div_at}
use Rattle.floats.proofs.Within.{cut, round_upto, mul_upto, add_upto}
use Rattle.color.specs.declared.NormalizedColor.{NormalizedColor}
use Rattle.reducing.specs.Luma.{unit, share, luma_f32, clamp_byte}
use Rattle.reducing.proofs.CutLaws.{byte_value}

-- the three channels are bytes
pub record Bytes (c : NormalizedColor) : Type 0 where
  pub red : c.0.r < 256
  pub green : c.0.g < 256
  pub blue : c.0.b < 256

-- ---- each operation's bound

unit_upto : (v : ℕ) → v < 256 → Upto 1 (unit v)
unfolding unit
unit_upto v h =
    subst (λ (x : Float). Upto 1 x) (sym (div_at binary32 (byte_f v) (byte_f 255) false false v 1 255 1 (lit< tt) (lit< tt) (lit< tt) (byte_value v h)
    (byte_value 255 (lit< tt))))
    (round_upto 1 (v * 1) (255 * 1) (lit< tt) (lit≤ tt) (small v h))
  where
    small : (v : ℕ) → v < 256 → v * 1 ≤ 1 * (255 * 1)
    small v h = omega arith

share_upto : (n : ℕ) → n ≤ 10000 → Upto 1 (share n)
unfolding over
share_upto n h = round_upto 1 n 10000 (lit< tt) (lit≤ tt) (le_trans h (le_of_eq (sym (one-mul 10000))))

pub luma_three : (c : NormalizedColor) → Bytes c → Upto 3 (luma_f32 c)
unfolding luma_f32 dot
luma_three c b =
    let term : (v n : ℕ) → v < 256 → n ≤ 10000 → Upto 1 (mul binary32 (unit v) (share n)) =
    λ v n h k. mul_upto 1 1 (unit v) (share n) (lit≤ tt) (unit_upto v h) (share_upto n k) in
    let r = term c.0.r 2126 b.red (lit≤ tt) in
    let g = term c.0.g 7152 b.green (lit≤ tt) in
    let l = term c.0.b 722 b.blue (lit≤ tt) in
    add_upto 2 1 _ _ (lit≤ tt) (add_upto 1 1 _ _ (lit≤ tt) r g) l

byte_upto : (n : ℕ) → n < 256 → Upto 255 (byte_f n)
unfolding byte_f of_int
byte_upto n h = round_upto 255 n 1 (lit< tt) (lit≤ tt) (le_trans {m = 255} (omega arith) (le_of_eq (sym (mul-one 255))))

-- ---- clamped

not_above : (A : ℕ) (x y : Float) → Upto A x → HasValue y false 255 1 → lt y x ≡ false → Upto 255 x
unfolding lt
not_above A nan y u v e = absurd u
not_above A (inf s) y u v e = absurd u
not_above A (fin true m k) y u v e = absurd u
not_above A (fin false m k) nan u v e = absurd v
not_above A (fin false m k) (inf t) u v e = absurd v
not_above A (fin false m k) (fin true n d) u v e = absurd (true≢false v.0)
not_above A (fin false m k) (fin false n d) u v e =
    cut (m * up k) (down k) (n * up d) (down d) 255 (down_pos d) v.1 (ltb-false (n * up d * down k) (m * up k * down d) e)

pub clamp_upto : (A : ℕ) (x : Float) → Upto A x → Upto 255 (clamp_byte x)
unfolding clamp_byte
clamp_upto A x u = go (lt x zero_f) (lt (byte_f 255) x) (not_above A x (byte_f 255) u (byte_value 255 (lit< tt)))
  where
    go : (s t : Bool) → (t ≡ false → Upto 255 x) → Upto 255 (cond s zero_f (cond t (byte_f 255) x))
    go true t f = lit≤ tt
    go false true f = byte_upto 255 (lit< tt)
    go false false f = f refl

-- what is cut
pub luma_upto : (c : NormalizedColor) → Bytes c → Upto 255 (clamp_byte (mul binary32 (luma_f32 c) (byte_f 255)))
luma_upto c b = clamp_upto 765 _ (mul_upto 3 255 (luma_f32 c) (byte_f 255) (lit≤ tt) (luma_three c b) (byte_upto 255 (lit< tt)))
