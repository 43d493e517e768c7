-- `pam::writing::put` meets its contract. Assumes nothing.
use mathlib.Core.Path.{refl}
use Rattle.pam.proofs.PieceLaws.{put_piece}
use Rattle.pam.proofs.writing.put.Goals as goal

pub returns : goal.returns
returns c = (refl, put_piece c.args.file.now c.args.bytes.now _ c.args.at c.requires c.copy.ensures)
