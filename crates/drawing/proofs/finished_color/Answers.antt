-- `drawing::finished_color` meets its contract, by whether the pixel is seen. Assumes nothing.
use Rattle.drawing.specs.Finished.{finished}
use Rattle.drawing.proofs.finished_color.Goals as goal

pub returns-then-seen : goal.returns-then-seen
unfolding finished
returns-then-seen c = rw c.if-seen.true c.normalize_color.ensures

pub returns : goal.returns
unfolding finished
returns c = rw c.if-seen.false
