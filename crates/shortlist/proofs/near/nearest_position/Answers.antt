-- `near::nearest_position` meets its contract: the leader of all entries, with entry 0 or the seed within reach. Assumes nothing.
use mathlib.Core.Path.{◌≡◌, refl, sym, subst}
use Prim.Native.Nat.{ℕ, ◌<◌}
use native.Mathlib.Omega.{arith}
use mathlib.Core.List.{List}
use lib.Dec.{T}
use lib.Ieee.{Float}
use Rattle.color.specs.declared.Oklab.{Oklab}
use Rattle.color.specs.Oklab.{all_in_range, oklab_at}
use Rattle.shortlist.specs.Candidates.{RangedList}
use Rattle.shortlist.specs.declared.near.Leader.{Leader}
use Rattle.shortlist.specs.Nearest.{distances, nearest_in, entry_at, Leads, Onward}
use Rattle.shortlist.proofs.NearestLaws.{distances_upto}
use Rattle.shortlist.proofs.LeaderLaws.{lead_begin, lead_on, lead_end}
use Rattle.shortlist.proofs.near.nearest_position.Goals as goal

-- a leader of all entries is the nearest, where one of them is within reach
nearest : (oklab : List Float) (count : ℕ) (asked : Oklab) → RangedList oklab count → T (all_in_range asked) → (start : Leader)
    → start ≡ entry_at (distances asked (oklab_at oklab)) 0 → (seed : ℕ) → seed < count → (leader : Leader)
    → Onward (distances asked (oklab_at oklab)) (distances asked (oklab_at oklab) seed) 0 count start leader
    → leader.position ≡ nearest_in (oklab_at oklab) count asked
nearest oklab count asked range ranged start e seed h leader on =
    let f = distances asked (oklab_at oklab) in
    let u = distances_upto (oklab_at oklab) count range.range asked ranged in
    lead_end f count seed leader h u (on count (omega arith) u (subst (Leads f (f seed) count 0) (sym e) (lead_begin f (f seed) count (omega arith))))

pub returns-then-count-lt32 : goal.returns-then-count-lt32
returns-then-count-lt32 c =
    let s = c in
    let asked : Oklab = record { l = s.args.l; a = s.args.a; b = s.args.b } in
    let first = c.entry_at-start in
    let f = distances asked (oklab_at s.args.oklab.now) in
    let on = c.leader_between-short in
    nearest s.args.oklab.now s.args.count asked s.requires.0 s.requires.1 (entry_at f 0) refl 0 (omega (arith, s.requires.2)) on.result
    (λ n h u l. subst (λ (x : Leader). Onward f (f 0) 1 s.args.count x on.result) first.ensures (on.ensures (f 0)) n h u
    (lead_on f (f 0) n (omega arith) u l))

pub returns : goal.returns
returns c =
    let s = c in
    let first = c.entry_at-start in
    nearest s.args.oklab.now s.args.count (record { l = s.args.l; a = s.args.a; b = s.args.b }) s.requires.0 s.requires.1 first.result first.ensures s.args.seed s.requires.2 c.leader_of-long.result c.leader_of-long.ensures
