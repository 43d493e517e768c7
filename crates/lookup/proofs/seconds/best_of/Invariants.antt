-- `seconds::best_of` meets its contract. The loop holds the best of the positions passed. Assumes nothing.
use lib.ListN.{take}
use Rattle.lookup.specs.Second.{BestBeside}
use Rattle.lookup.proofs.seconds.best_of.Given as goal

abbrev pub invariant-loop-k : goal.invariant-loop-k
invariant-loop-k g l = BestBeside (g.E.Entries.listed l.entries).normalized l.a l.color (take l.k-index l.positions) l.best
