-- `away::eight_farther` meets its contract. All of those passed are farther. Assumes nothing.
use mathlib.Core.Path.{◌≡◌}
use Rattle.color.specs.Oklab.{oklab_at}
use Rattle.shortlist.specs.Nearest.{distances, farther}
use Rattle.shortlist.proofs.away.eight_farther.Given as goal

abbrev pub invariant-loop-i : goal.invariant-loop-i
invariant-loop-i l = l.all ≡ farther (distances l.o (oklab_at l.oklab)) l.limit l.k l.i
