-- `records::list::Records::nearest` meets its contract. The loop's invariant: the nearest of those before is known, with its distance. Assumes nothing.
use Rattle.std.proofs.Common.{◌≡◌}
use Rattle.std.specs.Float.Ieee.{lt}
use Rattle.lists.specs.Least.{least_of}
use Rattle.records.specs.Lists.{far_of}
use Rattle.records.proofs.list.Records.nearest.Given as goal

abbrev pub invariant-loop-k : goal.invariant-loop-k
invariant-loop-k l = record { position : l.nearest ≡ least_of lt (far_of l.self.list.now l.o) l.k; distance : l.least ≡ far_of l.self.list.now l.o l.nearest }
