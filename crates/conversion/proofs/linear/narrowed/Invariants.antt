-- The loop of `linear::narrowed`: the first k values are in place. Assumes nothing.
use mathlib.Core.List.{[], ◌∷◌}
use lib.ListN.{replicate}
use Rattle.lists.proofs.FillLaws.{Filling}
use Rattle.conversion.specs.Linear.{linear_of}
use Rattle.conversion.proofs.linear.narrowed.Given as goal

abbrev pub invariant-loop-k : goal.invariant-loop-k
invariant-loop-k l = Filling 1 (λ j. linear_of j ∷ []) (replicate 256 0) l.entries l.k
