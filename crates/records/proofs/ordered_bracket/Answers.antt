-- `ordered_bracket` meets its contract: the refusal, or the bracket found. Assumes nothing.
use Rattle.std.proofs.Common.{rules, sym, ◌∙◌}
use Rattle.replies.proofs.RefusalLaws.{answered_ok}
use Rattle.lookup.specs.Bracket.{bracket_of}
use Rattle.records.specs.Lists.{candidates_of, number_by}
use Rattle.records.proofs.ordered_bracket.Goals as goal

pub returns-in_err-records : goal.returns-in_err-records
unfolding number_by
returns-in_err-records c = search rules

pub returns : goal.returns
unfolding number_by
returns c =
    let l = c.in_ok-records.ensures.list in
    answered_ok _ _ (sym c.in_ok-records.ensures.number)
    (c.bracket.ensures ∙ (λ i. bracket_of (candidates_of (l i)) c.args.width (c.to_oklab.ensures i) c.args.color))
