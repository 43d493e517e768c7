-- `patterns::is_retired` meets its contract: the numbers of the kinds that are retired. Assumes nothing.
use mathlib.Core.Path.{sym}
use Rattle.patterns.proofs.Numbers.{retired_is}
use Rattle.patterns.proofs.is_retired.Goals as goal

pub returns : goal.returns
returns c = sym (retired_is c.args.kind)
