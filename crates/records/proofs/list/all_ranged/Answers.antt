-- `records::list::all_ranged` meets its contract: the test of each record is the test of the list. Assumes nothing.
use Rattle.std.proofs.Common.{rules}
use Rattle.records.proofs.ListLaws.{ranged_is}
use Rattle.records.proofs.list.all_ranged.Goals as goal

pub returns : goal.returns
returns c = ranged_is c.args.list.now c.all.result (search rules)
