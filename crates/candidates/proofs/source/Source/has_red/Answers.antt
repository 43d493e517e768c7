-- `Source::has_red` meets its contract: its two tests are the definition's. Assumes nothing.
use Rattle.picture.specs.Pixels.{is_seen}
use Rattle.candidates.specs.Steps.{has_red}
use Rattle.candidates.proofs.source.Source.has_red.Goals as goal

pub returns : goal.returns
unfolding has_red is_seen
returns c = rw (c.is_transparent.ensures, c.reduced_at-c.ensures)
