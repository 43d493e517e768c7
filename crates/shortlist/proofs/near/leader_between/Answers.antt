-- The answers for `near::leader_between`: its contract follows from its invariants.
use mathlib.Core.Path.{sym, ap, ◌∙◌, subst}
use Prim.Native.Nat.{ℕ, ◌+◌, ◌-◌, ◌*◌, ◌/◌}
use native.Mathlib.Omega.{arith}
use Rattle.color.specs.Oklab.{oklab_at}
use Rattle.shortlist.specs.Nearest.{distances, entry_at, nearer_of, Leads, Onward}
use Rattle.shortlist.proofs.LeaderLaws.{lead_one, onward}
use Rattle.shortlist.proofs.near.leader_between.Goals as goal

pub loop-pair-preserved : goal.loop-pair-preserved
loop-pair-preserved c =
    let l = c.loop-pair in
    let a = c.args in
    let d = distances a.o (oklab_at a.oklab.now) in
    λ reach. subst (λ (k : ℕ). Onward d reach a.from k a.start c.leader_by_two-leader.result) (omega arith)
    (onward d reach (omega arith) (l.invariant reach) (c.leader_by_two-leader.ensures reach))

-- one is left over
pub returns-then-last-to : goal.returns-then-last-to
returns-then-last-to c reach n h u s =
    let l = c.loop-pair in
    let a = c.args in
    let d = distances a.o (oklab_at a.oklab.now) in
    let last : ℕ = a.from + 2 * ((a.to - a.from) / 2) in
    subst (Leads d reach n a.to) (sym (c.nearer.ensures ∙ ap (nearer_of l.leader) c.entry_at.ensures))
    (subst (λ (i : ℕ). Leads d reach n i (nearer_of l.leader (entry_at d last))) (omega (arith, c.if-last-to.true))
    (lead_one d reach l.leader last n (omega (arith, c.if-last-to.true)) u
    (subst (λ (k : ℕ). Leads d reach n k l.leader) (omega arith) (l.invariant reach n (omega arith) u s))))

-- none is
pub returns : goal.returns
returns c =
    let l = c.loop-pair in
    let a = c.args in
    let d = distances a.o (oklab_at a.oklab.now) in
    λ reach. subst (λ (k : ℕ). Onward d reach a.from k a.start l.leader) (omega arith) (l.invariant reach)
