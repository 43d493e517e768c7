-- `Oklabs::nearest_position` meets its contract: what is recalled is the nearest, and what is worked out is remembered. Assumes nothing.
use mathlib.Core.Path.{ap, sym, subst}
use Rattle.lookup.specs.declared.Two.{Two}
use Rattle.std.specs.Prelude.{None}
use Rattle.remembered.specs.Table.{nearest_alone, TableOf}
use Rattle.remembered.specs.Lent.{labs}
use Rattle.remembered.proofs.TableLaws.{alone_by_rgb}
use Rattle.remembered.proofs.candidates.Oklabs.nearest_position.Goals as goal

pub returns-in-Some : goal.returns-in-Some
unfolding nearest_alone
returns-in-Some c = let K = c.requires.1 in (ap (λ (two : Two). two.first) (c.in-Some.ensures _ K), K)

pub returns : goal.returns
unfolding nearest_alone
returns c =
    let o = c.args.self.now in
    let e = c.nearest_anew-k.ensures in
    let table = c.keep.ensures.table _ (alone_by_rgb (labs o) o.count) (λ q. record { first = e q; second = None }) c.requires.1 in
    (e, subst (TableOf _) (sym c.note_last.ensures) (record { right = table.right }))
