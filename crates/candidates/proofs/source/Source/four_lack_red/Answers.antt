-- The answers for `Source::four_lack_red`: its contract follows from its invariant.
use mathlib.Core.Path.{refl}
use native.Mathlib.Numerals.{add-one}
use Rattle.lists.specs.First.{all_pass}
use Rattle.lists.proofs.Bools.{and_split}
use Rattle.candidates.proofs.source.Source.four_lack_red.Goals as goal

pub loop-j-init : goal.loop-j-init
unfolding all_pass
loop-j-init c = λ _. refl

pub loop-j-preserved : goal.loop-j-preserved
unfolding all_pass
loop-j-preserved c =
    λ t.
    let both = and_split c.loop-j.lack _ t in
    rw (add-one, c.loop-j.invariant both.0, c.lacks_red-lack.ensures both.1) refl
