-- `near::entry_at` meets its contract. Assumes nothing.
use Rattle.shortlist.proofs.near.entry_at.Goals as goal

pub returns : goal.returns
returns c = rw c.distance_to.ensures
