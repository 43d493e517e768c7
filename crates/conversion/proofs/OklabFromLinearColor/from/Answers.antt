-- `Oklab::from` of a linear colour meets its contract: no root exceeds a million. Assumes nothing.
use Rattle.conversion.proofs.OklabLaws.{roots_bound}
use Rattle.conversion.proofs.OklabFromLinearColor.from.Goals as goal

pub invariant_of-from : goal.invariant_of-from
invariant_of-from c = record { small = roots_bound _ _ _ c.args.x.small c.weighted_root.ensures c.weighted_root-2.ensures c.weighted_root-3.ensures }
