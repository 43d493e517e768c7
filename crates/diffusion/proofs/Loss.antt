-- The loss where nothing is clipped lies from -8 to 7. Assumes nothing.
use mathlib.Core.Bool.{Bool, true, false, cond}
use Prim.Native.Nat.{ℕ, zero, suc, ◌+◌, ◌-◌, ◌*◌, ◌/◌, ◌≤◌, min}
use native.Mathlib.Omega.{arith}
use lib.Dec.{ltb, leb→le, le→leb}
use lib.IntN.{ℤ, pos, negsuc, ◌+ℤ◌, ◌-ℤ◌}
use lib.Signed.{◌≤ℤ◌}
use Rattle.diffusion.specs.Biased.{halves, clip, biased_of}
use Rattle.diffusion.specs.Diffusion.{loss_of}

near : (v b : ℕ) → b ≤ v + 8 → v ≤ b + 7 → (negsuc 7 ≤ℤ (pos v -ℤ pos b)) × ((pos v -ℤ pos b) ≤ℤ pos 7)
near v zero p q = (record { le = tt }, record { le = le→leb (v + 0) 7 (omega arith) })
near v (suc b) p q = go (ltb v (suc b))
  where
    go : (t : Bool) → (negsuc 7 ≤ℤ cond t (negsuc (suc b - suc v)) (pos (v - suc b))) × (cond t (negsuc (suc b - suc v)) (pos (v - suc b)) ≤ℤ pos 7)
    go true = (record { le = le→leb (suc b - suc v) 7 (omega arith) }, record { le = tt })
    go false = (record { le = tt }, record { le = le→leb (v - suc b) 7 (omega arith) })

rounded : (u : ℤ) → pos 0 ≤ℤ u → u ≤ℤ pos 4080 → (negsuc 7 ≤ℤ (u -ℤ pos (clip (halves u) * 16))) × ((u -ℤ pos (clip (halves u) * 16)) ≤ℤ pos 7)
unfolding halves clip
rounded (pos v) low high =
    let h : v ≤ 4080 = leb→le v 4080 high.le in
    near v (min ((v + 8) / 16) 255 * 16) (omega arith) (omega arith)
rounded (negsuc v) low high = absurd low.le

-- of a source s and a cell z, where 16 s + z lies from 0 to 4080
pub loss_range : (s : ℕ) (z : ℤ) → pos 0 ≤ℤ (pos (s * 16) +ℤ z) → (pos (s * 16) +ℤ z) ≤ℤ pos 4080 → (negsuc 7 ≤ℤ loss_of s z) × (loss_of s z ≤ℤ pos 7)
unfolding loss_of biased_of
loss_range s z low high = rounded (pos (s * 16) +ℤ z) low high
