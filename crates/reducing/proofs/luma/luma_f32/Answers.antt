-- `reducing::luma::luma_f32` meets its contract: its operations and its weights are the definition's. Assumes nothing.
use mathlib.Core.Path.{◌≡◌, refl}
use lib.Ieee.{binary32, of_bits, round}
use Rattle.floats.specs.Over.{over}
use Rattle.floats.specs.Bytes.{dot}
use Rattle.reducing.specs.Luma.{share, luma_f32}
use Rattle.reducing.proofs.luma.luma_f32.Goals as goal

-- the code's weights
red_is : of_bits binary32 1046066128 ≡ share 2126
unfolding of_bits over round
red_is = refl

green_is : of_bits binary32 1060575065 ≡ share 7152
unfolding of_bits over round
green_is = refl

blue_is : of_bits binary32 1033100696 ≡ share 722
unfolding of_bits over round
blue_is = refl

pub returns : goal.returns
unfolding luma_f32 dot
returns c = rw (← red_is, ← green_is, ← blue_is) (cc)
