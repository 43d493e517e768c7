-- `quantize::check` meets its contract: past the first three tests the size is not wrong, so there are few pixels. Assumes nothing.
use mathlib.Core.Path.{sym, ◌∙◌}
use Rattle.picture.proofs.BoundLaws.{sized}
use Rattle.quantize.proofs.check.Goals as goal

pub lengths_wrong-requires : goal.lengths_wrong-requires
lengths_wrong-requires c = (sized c.args.asked.width c.args.asked.height (sym c.size_wrong-size_wrong.ensures ∙ c.if-size_wrong.false)).2
