-- `records::list::Records::list_others` meets its contract. The loop's invariant: the shortlist of those before is held. Assumes nothing.
use Rattle.shortlist.specs.Shortlist.{Holding}
use Rattle.records.specs.Lists.{record_at, far_of}
use Rattle.records.proofs.list.Records.list_others.Given as goal

abbrev pub invariant-loop-k : goal.invariant-loop-k
invariant-loop-k l = Holding (far_of l.self.list.now (record_at l.self.list.now l.a).oklab) l.a l.w l.k l.short
