-- `nearest` meets its contract: the refusal, or the record at the position found. Assumes nothing.
use Rattle.std.proofs.Common.{rules, sym, ap, subst, ◌∙◌, ◌<◌, ℕ, length}
use Rattle.replies.proofs.RefusalLaws.{answered_ok}
use Rattle.shortlist.specs.Nearest.{nearest_of}
use Rattle.shortlist.proofs.NearestLaws.{nearest_inside}
use Rattle.records.specs.Lists.{candidates_of, number_by}
use Rattle.records.specs.Answers.{taken_at}
use Rattle.records.proofs.ListLaws.{accepted}
use Rattle.records.proofs.nearest.Goals as goal

pub returns-in_err-records : goal.returns-in_err-records
unfolding number_by
returns-in_err-records c = search rules

pub taken-requires : goal.taken-requires
taken-requires c =
    let list = c.in_ok-records.records.list.now in
    subst (λ (k : ℕ). k < length list) (sym c.nearest.ensures)
    (nearest_inside (candidates_of list).oklab (length list) c.to_oklab.result (accepted list c.in_ok-records.records.accepted).positive)

pub returns : goal.returns
unfolding number_by
returns c =
    let l = c.in_ok-records.ensures.list in
    answered_ok _ _ (sym c.in_ok-records.ensures.number)
    (c.taken.ensures ∙ ap (taken_at c.in_ok-records.records.list.now) c.nearest.ensures
    ∙ (λ i. taken_at (l i) (nearest_of (candidates_of (l i)) (c.to_oklab.ensures i))))
