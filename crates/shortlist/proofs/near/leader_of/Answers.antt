-- The answers for `near::leader_of`: its contract follows from its invariants.
use mathlib.Core.Path.{subst}
use Prim.Native.Nat.{ℕ}
use native.Mathlib.Omega.{arith}
use lib.Ieee.{Float}
use Rattle.color.specs.Oklab.{oklab_at}
use Rattle.shortlist.specs.Nearest.{distances, Onward}
use Rattle.shortlist.proofs.LeaderLaws.{onward}
use Rattle.shortlist.proofs.near.leader_of.Goals as goal

-- a loop that began further on would have to know of the entries before
pub loop-block-init : goal.loop-block-init
loop-block-init c n h u s = s

pub loop-block-preserved : goal.loop-block-preserved
loop-block-preserved c =
    let a = c.args in
    let r = c.distance_to-reach.result in
    let d = distances a.o (oklab_at a.oklab.now) in
    subst (λ (k : ℕ). Onward d r 0 k a.start c.leader_by_eight-leader.result) (omega arith)
    (onward d r (omega arith) c.loop-block.invariant c.leader_by_eight-leader.ensures)

pub returns : goal.returns
returns c =
    let a = c.args in
    let r = c.distance_to-reach.result in
    let d = distances a.o (oklab_at a.oklab.now) in
    subst (λ (x : Float). Onward d x 0 a.count a.start c.leader_between.result) c.distance_to-reach.ensures
    (onward d r (omega arith) (subst (λ (k : ℕ). Onward d r 0 k a.start c.loop-block.leader) (omega arith) c.loop-block.invariant)
    (c.leader_between.ensures r))
