-- The loop of `Row::recall`: so many positions are taken over. Assumes nothing.
use mathlib.Core.Path.{◌≡◌}
use lib.ListN.{take}
use Rattle.remembered.proofs.shorts.Row.recall.Given as goal

abbrev pub invariant-loop-i : goal.invariant-loop-i
invariant-loop-i l = take l.i l.short.positions ≡ take l.i l.self.positions
