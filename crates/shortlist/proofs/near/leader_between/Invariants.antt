-- `near::leader_between` meets its contract. The loop holds the leader of the entries passed. Assumes nothing.
use Prim.Native.Nat.{◌+◌, ◌*◌}
use lib.Ieee.{Float}
use Rattle.color.specs.Oklab.{oklab_at}
use Rattle.shortlist.specs.Nearest.{distances, Onward}
use Rattle.shortlist.proofs.near.leader_between.Given as goal

abbrev pub invariant-loop-pair : goal.invariant-loop-pair
invariant-loop-pair l = (reach : Float) → Onward (distances l.o (oklab_at l.oklab)) reach l.from (l.from + 2 * l.pair) l.initial.leader l.leader
