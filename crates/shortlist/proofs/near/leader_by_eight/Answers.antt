-- `near::leader_by_eight` meets its contract: all eight are farther, or each has its turn. Assumes nothing.
use Rattle.color.specs.Oklab.{oklab_at}
use Rattle.shortlist.specs.Nearest.{distances}
use Rattle.shortlist.proofs.LeaderLaws.{lead_past}
use Rattle.shortlist.proofs.near.leader_by_eight.Goals as goal

pub returns-then-eight_farther : goal.returns-then-eight_farther
returns-then-eight_farther c =
    let a = c.args in
    let l = c.lesser-limit in
    let e = c.eight_farther in
    lead_past (distances a.o (oklab_at a.oklab.now)) a.reach a.leader a.k 8 l.result e.result l.ensures e.ensures c.if-eight_farther.true

pub returns : goal.returns
returns c = c.leader_between.ensures c.args.reach
