-- `conversion::root::Radicand::cube_root` meets its contract: an estimate that is neither too high nor too low is the root. Assumes nothing.
use mathlib.Core.Path.{sym, ◌∙◌}
use lib.Dec.{nltb→le}
use Rattle.lists.proofs.Bools.{fails, or_split}
use Rattle.conversion.proofs.RootLaws.{is_root}
use Rattle.conversion.proofs.root.Radicand.cube_root.Goals as goal

pub returns : goal.returns
returns c =
    let neither = or_split _ _ c.if-too_high-too_low.false in
    let high = nltb→le _ _ (fails (sym c.too_high.ensures ∙ neither.0)) in
    let low = nltb→le _ _ (fails (sym c.too_low.ensures ∙ neither.1)) in
    is_root _ _ c.args.self.small high low
