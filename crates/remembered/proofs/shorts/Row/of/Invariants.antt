-- The loop of `Row::of`: so many positions are taken over. Assumes nothing.
use mathlib.Core.Path.{◌≡◌}
use Prim.Native.Nat.{ℕ, ◌%◌, ◌<◌}
use lib.ListN.{length, get_or}
use Rattle.remembered.proofs.shorts.Row.of.Given as goal

abbrev pub invariant-loop-i : goal.invariant-loop-i
invariant-loop-i l = record {
  room : length l.positions ≡ 16;
  front : (k : ℕ) → k < l.i → get_or l.positions k 0 ≡ get_or l.short.positions k 0 % 65536;
}
