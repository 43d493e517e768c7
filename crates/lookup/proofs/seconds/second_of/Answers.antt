-- `seconds::second_of` meets its contract: the best of those that mix. Assumes nothing.
use mathlib.Core.Path.{subst}
use Rattle.std.specs.Prelude.{Option}
use Rattle.lookup.specs.declared.seconds.Mix.{Mix}
use Rattle.lookup.specs.Second.{those, mixable, mix_error, BestBeside}
use Rattle.lookup.proofs.SecondLaws.{second_found}
use Rattle.lookup.proofs.seconds.second_of.Goals as goal

pub returns-in-Some : goal.returns-in-Some
returns-in-Some g c =
    let a = c.args in
    let n = (g.E.Entries.listed a.entries.now).normalized in
    second_found (mix_error n a.a a.color) c.in-Some.best (those (mixable n a.a a.color) a.positions.now) a.positions.now
    (subst (λ (best : Option Mix). BestBeside n a.a a.color a.positions.now best) c.in-Some.is c.best_of.ensures)
