-- `records::list::Records::list_others` meets its contract: a turn of the loop puts one record more into the shortlist. Assumes nothing.
use Rattle.std.proofs.Common.{arith}
use Rattle.records.specs.Lists.{record_at, far_of}
use Rattle.records.proofs.OtherLaws.{far_upto}
use Rattle.records.proofs.list.Records.list_others.Goals as goal

pub loop-k-preserved : goal.loop-k-preserved
loop-k-preserved c =
    let list = c.args.self.now.list.now in
    c.put.ensures (far_of list (record_at list c.args.a).oklab)
    (λ j l. far_upto list c.args.self.now.accepted c.args.a c.requires.0 j (omega arith)) c.sqdist.ensures c.loop-k.invariant
