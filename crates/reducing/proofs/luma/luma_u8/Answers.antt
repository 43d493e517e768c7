-- `reducing::luma::luma_u8` meets its contract: what is cut lies from 0 to 255, whatever the number is that the search begins with. Assumes nothing.
use mathlib.Core.Path.{◌≡◌, sym, ap, ◌∙◌, subst}
use lib.Ieee.{Float, binary32, mul, of_int, of_bits, round}
use borrow.Author.Rules.{rules}
use Rattle.floats.specs.Bounds.{Upto}
use Rattle.floats.specs.Bytes.{byte_f}
use Rattle.reducing.specs.Luma.{clamp_byte, cut_byte, luma_u8}
use Rattle.reducing.proofs.LumaLaws.{luma_upto}
use Rattle.reducing.proofs.luma.luma_u8.Goals as goal

-- what is clamped, of the luma l
clamped : {l x y : Float} → l ≡ y → x ≡ clamp_byte (mul binary32 l (byte_f 255)) → x ≡ clamp_byte (mul binary32 y (byte_f 255))
clamped e f = f ∙ ap (λ (l : Float). clamp_byte (mul binary32 l (byte_f 255))) e

pub cut-requires : goal.cut-requires
unfolding clamp_byte byte_f of_int of_bits round
cut-requires c =
    subst (λ (x : Float). Upto 255 x) (sym (clamped c.luma_f32-scaled.ensures c.clamp.ensures.value))
    (luma_upto c.args.c (record { red = search rules; green = search rules; blue = search rules }))

pub returns : goal.returns
unfolding luma_u8 clamp_byte byte_f of_int of_bits round
returns c = c.cut.ensures ∙ ap cut_byte (clamped c.luma_f32-scaled.ensures c.clamp.ensures.value)
