-- A colour of a buffer, by the channel's number, is the byte of that number in the pixel's four. Assumes nothing.
use mathlib.Core.Path.{◌≡◌, refl, sym, ap}
use mathlib.Core.List.{List}
use Prim.Native.Nat.{ℕ, ◌+◌, ◌*◌, ◌<◌}
use native.Mathlib.Nat.{add-zero}
use lib.ListN.{get_or}
use Rattle.color.specs.Color.{rgba_at}
use Rattle.diffusion.specs.Sends.{byte_in}
use Rattle.diffusion.proofs.Channels.{by_channel}

pub byte_in_lem : (bytes : List ℕ) (i a : ℕ) → a < 3 → byte_in a (rgba_at bytes i) ≡ get_or bytes (4 * i + a) 0
unfolding rgba_at
byte_in_lem bytes i a A =
    by_channel (λ a. byte_in a (rgba_at bytes i) ≡ get_or bytes (4 * i + a) 0) (ap (λ (m : ℕ). get_or bytes m 0) (sym (add-zero (4 * i)))) refl refl a A
