-- `nearest_two` meets its contract: the refusal, or the records at the positions found. Assumes nothing.
use Rattle.std.proofs.Common.{rules, sym, ap, ◌∙◌}
use Rattle.replies.proofs.RefusalLaws.{answered_ok}
use Rattle.lookup.specs.declared.Two.{Two}
use Rattle.lookup.specs.Second.{nearest_two_of}
use Rattle.lookup.proofs.TwoLaws.{first_entry, second_entry}
use Rattle.records.specs.Lists.{candidates_of, number_by}
use Rattle.records.specs.Answers.{records_at}
use Rattle.records.proofs.ListLaws.{accepted}
use Rattle.records.proofs.nearest_two.Goals as goal

pub returns-in_err-records : goal.returns-in_err-records
unfolding number_by
returns-in_err-records c = search rules

pub both-requires : goal.both-requires
both-requires c =
    let list = c.in_ok-records.records.list.now in
    let A = accepted list c.in_ok-records.records.accepted in
    let cs = candidates_of list in (
      first_entry cs c.args.width c.to_oklab.result c.args.color c.two.result c.two.ensures A.positive,
      second_entry cs c.args.width c.to_oklab.result c.args.color c.two.result c.two.ensures A.positive A.range,
    )

pub returns : goal.returns
unfolding number_by
returns c =
    let l = c.in_ok-records.ensures.list in
    answered_ok _ _ (sym c.in_ok-records.ensures.number)
    (c.both.ensures ∙ ap (λ (t : Two). records_at c.in_ok-records.records.list.now t.first t.second) c.two.ensures
    ∙ (λ i. let t = nearest_two_of (candidates_of (l i)) c.args.width (c.to_oklab.ensures i) c.args.color in records_at (l i) t.first t.second))
