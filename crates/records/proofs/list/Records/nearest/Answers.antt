-- `records::list::Records::nearest` meets its contract: an accepted list has a record, and a turn of the loop takes one more into account. Assumes nothing.
use Rattle.std.proofs.Common.{refl, sym, ap, ◌∙◌}
use Rattle.lists.specs.Least.{least_of}
use Rattle.records.specs.Lists.{far_of}
use Rattle.records.proofs.ListLaws.{accepted}
use Rattle.records.proofs.FirstLaws.{nearer, not_nearer}
use Rattle.records.proofs.list.Records.nearest.Goals as goal
use Rattle.records.proofs.list.Records.nearest.Goals.{then-d-least, else-d-least}

pub bounds-self-0 : goal.bounds-self-0
bounds-self-0 c = (accepted c.args.self.now.list.now c.args.self.now.accepted).positive

pub loop-k-init : goal.loop-k-init
unfolding least_of
loop-k-init c = record { position = refl; distance = c.sqdist-least.ensures }

pub loop-k-preserved : goal.loop-k-preserved
loop-k-preserved c =
    let f = far_of c.args.self.now.list.now c.args.o in
    let l = c.loop-k in
    elim c.if-d-least.branch [
      | then-d-least w ↦ record {
        position = w.nearest-is ∙ nearer f l.k l.nearest l.least c.sqdist-d.result l.invariant.position l.invariant.distance c.sqdist-d.ensures w.if-d-least.true;
        distance = w.least-is ∙ c.sqdist-d.ensures ∙ ap f (sym w.nearest-is);
      }
      | else-d-least w ↦ record {
        position = w.nearest-is ∙ not_nearer f l.k l.nearest l.least c.sqdist-d.result l.invariant.position l.invariant.distance c.sqdist-d.ensures w.if-d-least.false;
        distance = w.least-is ∙ l.invariant.distance ∙ ap f (sym w.nearest-is);
      }
    ]
