-- `checks::list_refusal` meets its contract: by its tests, in the order of the numbers. Assumes nothing.
use Rattle.lookup.specs.Lists.{list_number}
use Rattle.lookup.proofs.checks.list_refusal.Goals as goal

pub returns-then-not-lengths_fit : goal.returns-then-not-lengths_fit
unfolding list_number
returns-then-not-lengths_fit c = rw (← c.lengths_fit.ensures, c.if-not-lengths_fit.true)

pub returns-then-not-count_fits : goal.returns-then-not-count_fits
unfolding list_number
returns-then-not-count_fits c = rw (← c.lengths_fit.ensures, c.if-not-lengths_fit.false, ← c.count_fits.ensures, c.if-not-count_fits.true)

pub returns-then-any_outside : goal.returns-then-any_outside
unfolding list_number
returns-then-any_outside c =
    rw (
      ← c.lengths_fit.ensures,
      c.if-not-lengths_fit.false,
      ← c.count_fits.ensures,
      c.if-not-count_fits.false,
      ← c.any_outside.ensures,
      c.if-any_outside.true,
    )

pub returns : goal.returns
unfolding list_number
returns c =
    rw (
      ← c.lengths_fit.ensures,
      c.if-not-lengths_fit.false,
      ← c.count_fits.ensures,
      c.if-not-count_fits.false,
      ← c.any_outside.ensures,
      c.if-any_outside.false,
    )
