-- `Source::four_lack_red` meets its contract. The invariant: where all tests so far say so, the first j of the four lack the red. Assumes nothing.
use mathlib.Core.Path.{◌≡◌}
use mathlib.Core.Bool.{true}
use Rattle.picture.specs.Pixels.{reduced_of}
use Rattle.candidates.specs.Steps.{none_has}
use Rattle.candidates.proofs.source.Source.four_lack_red.Given as goal

abbrev pub invariant-loop-j : goal.invariant-loop-j
invariant-loop-j l = l.lack ≡ true → none_has (reduced_of l.self.pixels) l.red l.i l.j ≡ true
