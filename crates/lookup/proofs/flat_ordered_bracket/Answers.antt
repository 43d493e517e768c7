-- `flat_ordered_bracket` meets its contract: the refusal, or what is found in the list. Assumes nothing.
use Rattle.std.proofs.Common.{rules}
use mathlib.Core.Path.{sym, ◌∙◌}
use native.Mathlib.Omega.{arith}
use Rattle.replies.proofs.RefusalLaws.{answered_ok}
use Rattle.shortlist.specs.Candidates.{flat}
use Rattle.lookup.specs.Bracket.{bracket_of}
use Rattle.lookup.specs.Lists.{list_number}
use Rattle.lookup.proofs.AnswerLaws.{in_range_lem}
use Rattle.lookup.proofs.flat_ordered_bracket.Goals as goal

pub returns-in_err-list : goal.returns-in_err-list
unfolding list_number
returns-in_err-list c = search rules

pub bracket-requires : goal.bracket-requires
bracket-requires c = in_range_lem c.args.color c.to_oklab.result c.to_oklab.ensures (omega arith) (omega arith) (omega arith)

pub returns : goal.returns
unfolding list_number
returns c =
    let l = c.in_ok-list.ensures.list in
    answered_ok _ _ (sym c.in_ok-list.ensures.number) (c.bracket.ensures ∙ (λ i. bracket_of (flat (l.0 i) (l.1 i) (l.2 i)) c.args.width (c.to_oklab.ensures i) c.args.color))
