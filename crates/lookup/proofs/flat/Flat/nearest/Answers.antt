-- `Flat::nearest` meets its contract: an accepted list is in range, and has an entry. Assumes nothing.
use mathlib.Core.Path.{sym, subst}
use Prim.Native.Nat.{ℕ, ◌<◌}
use Rattle.shortlist.specs.Candidates.{RangedList}
use Rattle.lookup.proofs.ListLaws.{accepted}
use Rattle.lookup.proofs.flat.Flat.nearest.Goals as goal

pub nearest_position-requires : goal.nearest_position-requires
nearest_position-requires c =
    let l = c.args.self.now in
    let A = accepted l.reduced.now l.normalized.now l.oklab.now l.accepted in
    let e = sym c.count.ensures in
    (subst (λ (n : ℕ). RangedList l.oklab.now n) e A.ranged, c.requires, subst (λ (n : ℕ). 0 < n) e A.positive)
