-- `near::leader_by_two` meets its contract. Assumes nothing.
use mathlib.Core.Path.{sym, ap, ◌∙◌, subst}
use Prim.Native.Nat.{◌+◌}
use Rattle.color.specs.Oklab.{oklab_at}
use Rattle.shortlist.specs.declared.near.Leader.{Leader}
use Rattle.shortlist.specs.Nearest.{distances, entry_at, nearer_of, Onward}
use Rattle.shortlist.proofs.LeaderLaws.{lead_two}
use Rattle.shortlist.proofs.near.leader_by_two.Goals as goal

pub returns : goal.returns
returns c reach =
    let two = c in
    let one = two in
    let a = one.args in
    let d = distances a.o (oklab_at a.oklab.now) in
    subst (Onward d reach a.k (a.k + 2) a.leader)
    (sym
    (c.nearer.ensures
    ∙ ap (nearer_of a.leader)
    (c.nearer-ahead.ensures ∙ ap (λ (x : Leader). nearer_of x two.entry_at-2.result) one.entry_at.ensures
    ∙ ap (nearer_of (entry_at d a.k)) two.entry_at-2.ensures)))
    (lead_two d reach a.leader a.k)
