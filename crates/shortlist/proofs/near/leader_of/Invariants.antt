-- `near::leader_of` meets its contract. The loop holds the leader of the entries passed. Assumes nothing.
use Prim.Native.Nat.{◌*◌}
use Rattle.color.specs.Oklab.{oklab_at}
use Rattle.shortlist.specs.Nearest.{distances, Onward}
use Rattle.shortlist.proofs.near.leader_of.Given as goal

abbrev pub invariant-loop-block : goal.invariant-loop-block
invariant-loop-block l = Onward (distances l.o (oklab_at l.oklab)) l.reach 0 (8 * l.block) l.initial.leader l.leader
