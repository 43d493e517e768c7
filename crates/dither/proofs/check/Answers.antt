-- `dither::check` meets its contract: past the first three tests the picture is small. Assumes nothing.
use mathlib.Core.Path.{sym, ◌∙◌}
use Rattle.dither.proofs.NumberLaws.{bounded}
use Rattle.dither.proofs.check.Goals as goal

pub lengths_wrong-requires : goal.lengths_wrong-requires
lengths_wrong-requires c = bounded c.args.s (sym c.bounds_wrong-size_wrong.ensures ∙ c.if-size_wrong.false)
