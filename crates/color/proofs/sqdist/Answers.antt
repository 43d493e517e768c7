-- `color::sqdist` meets its contract: its operations and its weight are the definition's. Assumes nothing.
use mathlib.Core.Path.{◌≡◌, ap}
use lib.Ieee.{Float, binary32, add, mul, of_bits}
use Rattle.color.specs.Oklab.{chroma, sqdist_of}
use Rattle.color.proofs.Distances.{chroma_is}
use Rattle.color.proofs.sqdist.Goals as goal

-- a sum with the code's weight in it
weighed : (light rest : Float) → add binary32 light (mul binary32 (of_bits binary32 0x4009_999a) rest) ≡ add binary32 light (mul binary32 chroma rest)
weighed light rest = ap (λ (weight : Float). add binary32 light (mul binary32 weight rest)) chroma_is

pub returns : goal.returns
unfolding sqdist_of
returns c = weighed _ _
