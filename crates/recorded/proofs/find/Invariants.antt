-- `recorded::find` meets its contract. The loop's invariant: no byte from `from` up to `i` is the one. Assumes nothing.
use Rattle.std.proofs.Common.{◌≡◌, ℕ, ◌<◌, ◌≤◌, get_or}
use Rattle.recorded.proofs.find.Given as goal

abbrev pub invariant-loop-i : goal.invariant-loop-i
invariant-loop-i l = (k : ℕ) → l.fn.from ≤ k → k < l.i → get_or l.bytes k 0 ≡ l.byte → ⊥
