-- `Flat::oklab_at` meets its contract: an accepted list has three floats for each entry. Assumes nothing.
use native.Mathlib.Omega.{arith}
use Rattle.lookup.proofs.ListLaws.{accepted}
use Rattle.lookup.proofs.flat.FlatEntries.oklab_at.Goals as goal

pub oklab_at-requires : goal.oklab_at-requires
oklab_at-requires c = let A = accepted _ _ _ c.args.self.now.accepted in omega (arith, A.ranged.long, c.requires)
