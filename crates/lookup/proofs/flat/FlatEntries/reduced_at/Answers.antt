-- `Flat::reduced_at` meets its contract: an accepted list has four bytes for each entry. Assumes nothing.
use native.Mathlib.Omega.{arith}
use Rattle.lookup.proofs.ListLaws.{accepted}
use Rattle.lookup.proofs.flat.FlatEntries.reduced_at.Goals as goal

pub rgba_at-requires : goal.rgba_at-requires
rgba_at-requires c = let A = accepted _ _ _ c.args.self.now.accepted in omega (arith, A.bytes, c.requires)
