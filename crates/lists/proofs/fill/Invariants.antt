-- `lists::fill` meets its contract. The invariant: the first elements are the value, and the others as they came. Assumes nothing.
use mathlib.Core.List.{[], ◌∷◌}
use Rattle.lists.proofs.FillLaws.{Filling}
use Rattle.lists.proofs.fill.Given as goal

abbrev pub invariant-loop-x : goal.invariant-loop-x
invariant-loop-x g l = Filling 1 (λ _. l.value ∷ []) l.initial.s l.s l.x-index
