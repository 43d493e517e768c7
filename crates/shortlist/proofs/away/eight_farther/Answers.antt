-- `away::eight_farther` meets its contract: one turn looks at one entry more. Assumes nothing.
use mathlib.Core.Path.{refl, sym, ap, ◌∙◌}
use mathlib.Core.Bool.{◌&&◌}
use native.Mathlib.Numerals.{add-one}
use lib.Ieee.{lt}
use Rattle.color.specs.declared.Oklab.{Oklab}
use Rattle.color.specs.Oklab.{oklab_at}
use Rattle.lists.specs.First.{all_pass}
use Rattle.shortlist.specs.Nearest.{distances, farther}
use Rattle.shortlist.proofs.away.eight_farther.Goals as goal

pub loop-i-init : goal.loop-i-init
unfolding all_pass
loop-i-init c = refl

pub loop-i-preserved : goal.loop-i-preserved
unfolding all_pass
loop-i-preserved c =
    let l = c.loop-i in
    let o : Oklab = record { l = c.args.l; a = c.args.a; b = c.args.b } in
    (λ j. l.invariant j && lt c.args.limit (c.distance_to.ensures j))
    ∙ ap (farther (distances o (oklab_at c.args.oklab.now)) c.args.limit c.args.k) (sym (add-one l.i))
