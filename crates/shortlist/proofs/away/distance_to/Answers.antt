-- `away::distance_to` meets its contract: the distance to the entry that is read. Assumes nothing.
use Rattle.shortlist.proofs.away.distance_to.Goals as goal

pub returns : goal.returns
returns c = cc
