-- `conversion::root::Radicand::too_high` meets its contract: up to 2^20 nothing is too large, and what is compared decides as the half's cube does. Assumes
-- nothing.
use Rattle.conversion.proofs.RootLaws.{too_high_test}
use Rattle.conversion.proofs.root.Radicand.too_high.Goals as goal

pub returns : goal.returns
returns c = too_high_test c.args.self.n c.args.c
