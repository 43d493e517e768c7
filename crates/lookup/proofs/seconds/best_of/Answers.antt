-- `seconds::best_of` meets its contract: a turn of the loop takes one entry more into account. Assumes nothing.
use Rattle.lookup.proofs.SecondLaws.{weighing_more}
use Rattle.lookup.proofs.seconds.best_of.Goals as goal

pub loop-k-preserved : goal.loop-k-preserved
loop-k-preserved g c =
    let l = c.loop-k in
    weighing_more (g.E.Entries.listed c.args.entries.now).normalized c.args.a c.args.color c.args.positions.now l.best c.normal_at-c1.ensures l.invariant
    c.loop-k-test.true c.weigh-best.result c.weigh-best.ensures
