-- `exports::badge_pam_size` meets its contract: the answer's size is handed over. Assumes nothing.
use mathlib.Core.Path.{◌∙◌}
use Rattle.exports.proofs.AnswerLaws.{size_after}
use Rattle.exports.proofs.badge_pam_size.Goals as goal

pub returns : goal.returns
returns c = c.handed_size.ensures ∙ size_after c.args.width.now c.args.height.now c.pam_size.ensures
