-- `Memory::shortlist` meets its contract: by whether the entry has a row. Assumes nothing.
use mathlib.Core.Path.{refl, sym, ◌∙◌}
use Prim.Native.Nat.{ℕ, ◌<◌}
use native.Mathlib.Omega.{arith}
use lib.ListN.{get_or}
use Rattle.color.specs.Oklab.{oklab_at}
use Rattle.shortlist.specs.declared.Shortlist.{Shortlist}
use Rattle.remembered.specs.Shorts.{shortlist_at}
use Rattle.remembered.proofs.ShortLaws.{rows_more, narrowed, short_length, short_below}
use Rattle.remembered.proofs.Memory.shortlist.Goals as goal

pub returns-then-is_of-clause-listed : goal.returns-then-is_of-clause-listed
returns-then-is_of-clause-listed c =
    let a = c.args in
    let o = a.oklabs.now in
    let size = c.length_of.ensures.0 ∙ sym (short_length (oklab_at o.oklab.now) o.count a.width o.ranged.range a.a c.requires.0) in
    rw (c.recall.ensures, size) (c.requires.1.right _ a.a (omega arith) _ (c.is_of.ensures.0 c.if-is_of.true))

pub returns-then-oklabs-le65536-clause-listed : goal.returns-then-oklabs-le65536-clause-listed
unfolding shortlist_at
returns-then-oklabs-le65536-clause-listed c = c.list.ensures.places

pub returns-then-oklabs-le65536-clause-rows : goal.returns-then-oklabs-le65536-clause-rows
unfolding shortlist_at
returns-then-oklabs-le65536-clause-rows c =
    let a = c.args in
    let o = a.oklabs.now in
    let s : Shortlist = c.list.new.self in
    let e = c.list.ensures in
    let low : (i : ℕ) → i < s.count → get_or s.positions i 0 < 65536 =
    λ i h. let l : get_or s.positions i 0 < o.count = short_below (oklab_at o.oklab.now) o.count a.width o.ranged.range a.a c.requires.0 s e i h in omega arith in
    rows_more _ a.self.now _ c.requires.1 a.a _ c.of.result (omega arith) c.of.ensures.entry
    (narrowed s c.of.result.positions _ s.few (omega arith) e.places e.count low c.of.ensures.positions) refl

pub returns-else-oklabs-le65536-clause-listed : goal.returns-else-oklabs-le65536-clause-listed
unfolding shortlist_at
returns-else-oklabs-le65536-clause-listed c = c.list.ensures.places
