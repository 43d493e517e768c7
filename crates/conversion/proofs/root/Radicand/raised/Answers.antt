-- The answers for `root::Radicand::raised`: its contract follows from its invariants.
use mathlib.Core.Path.{sym, ◌∙◌}
use lib.Dec.{nltb→le}
use Rattle.lists.proofs.Bools.{fails}
use Rattle.conversion.proofs.RootLaws.{is_root}
use Rattle.conversion.proofs.root.Radicand.raised.Goals as goal

pub returns : goal.returns
returns c =
    let high = nltb→le _ _ (fails (sym c.too_low.ensures ∙ c.loop-self-test.false)) in
    is_root _ _ c.args.self.small c.loop-self.invariant.0 high
