-- `conversion::list::put_list_oklab` meets its contract. The invariant: the first i Oklab colours are in place. Assumes nothing.
use Rattle.color.specs.Color.{reduced_at}
use Rattle.lists.proofs.FillLaws.{Filling}
use Rattle.conversion.specs.Lists.{oklab_floats}
use Rattle.conversion.proofs.list.put_list_oklab.Given as goal

abbrev pub invariant-loop-i : goal.invariant-loop-i
invariant-loop-i l = Filling 3 (oklab_floats l.scale (reduced_at l.colors)) l.initial.oklab l.oklab l.i
