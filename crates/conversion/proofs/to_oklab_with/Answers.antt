-- `conversion::to_oklab_with` meets its contract: the colour's linear values are converted. Assumes nothing.
use Rattle.conversion.proofs.OklabLaws.{converted}
use Rattle.conversion.proofs.to_oklab_with.Goals as goal

pub returns : goal.returns
returns c = converted _ _ _ _ _ c.color.ensures c.from.ensures
