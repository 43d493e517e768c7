-- `Source::reduced_by` meets its contract: the way that is named is theirs. Assumes nothing.
use mathlib.Core.Path.{refl}
use Rattle.picture.specs.Pixels.{reduced_by}
use Rattle.candidates.proofs.source.Source.reduced_by.Goals as goal

pub returns : goal.returns
unfolding reduced_by
returns c = rw (c.reduce_color.ensures, c.source_at.ensures, c.requires.same) refl
