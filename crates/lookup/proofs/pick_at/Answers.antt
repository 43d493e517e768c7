-- `pick_at` meets its contract: its test is the definition's. Assumes nothing.
use mathlib.Core.Path.{sym, ap, ◌∙◌}
use mathlib.Core.Bool.{Bool, not, ◌&&◌}
use lib.Ieee.{lt}
use Rattle.lookup.proofs.BracketLaws.{picks_light, picks_dark}
use Rattle.lookup.proofs.pick_at.Goals as goal

pub returns-then-same_reduced-bracket : goal.returns-then-same_reduced-bracket
returns-then-same_reduced-bracket c =
    let a = c.args in sym (picks_light a.bracket a.threshold (ap (λ (u : Bool). not u && lt a.threshold a.bracket.ratio) (sym c.same_reduced.ensures) ∙ c.if-same_reduced-bracket.true))

pub returns : goal.returns
returns c =
    let a = c.args in sym (picks_dark a.bracket a.threshold (ap (λ (u : Bool). not u && lt a.threshold a.bracket.ratio) (sym c.same_reduced.ensures) ∙ c.if-same_reduced-bracket.false))
