-- `seconds::is_below` meets its contract: its test is the definition's. Assumes nothing.
use mathlib.Core.Path.{sym, ap}
use Rattle.std.specs.Prelude.{Option}
use Rattle.lookup.specs.declared.seconds.Mix.{Mix}
use Rattle.lookup.specs.Second.{is_below}
use Rattle.lookup.proofs.seconds.is_below.Goals as goal

pub returns-in-Some : goal.returns-in-Some
returns-in-Some c = ap (λ (best : Option Mix). is_below best c.args.error) (sym c.in-Some.is)
