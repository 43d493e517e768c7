-- `pam::sides::Sides::checked` meets its contract: sides that are not refused are within their bounds. Assumes nothing.
use mathlib.Core.Path.{sym, ◌∙◌}
use Rattle.picture.proofs.BoundLaws.{sized}
use Rattle.pam.proofs.sides.Sides.checked.Goals as goal

pub invariant_of-result : goal.invariant_of-result
invariant_of-result c =
    let s = sized c.args.width c.args.height (sym c.size_wrong.ensures ∙ c.if-size_wrong.false) in
    record { wide = s.0; high = s.1; few = s.2 }
