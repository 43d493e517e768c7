-- `Candidates::pair_positions` meets its contract: what is recalled is the pair, and what is worked out is remembered. Assumes nothing.
use mathlib.Core.Path.{sym, subst}
use Rattle.remembered.specs.Table.{nearest_both}
use Rattle.remembered.specs.Shorts.{TableAndRows}
use Rattle.remembered.specs.Lent.{entries}
use Rattle.remembered.proofs.TableLaws.{both_by_rgb}
use Rattle.remembered.proofs.ShortLaws.{rows_same}
use Rattle.remembered.proofs.candidates.Candidates.pair_positions.Goals as goal

pub returns-in-Some : goal.returns-in-Some
unfolding nearest_both
returns-in-Some c = let K = c.requires.1 in (c.in-Some.ensures _ K.pairs, K)

pub returns : goal.returns
unfolding nearest_both
returns c =
    let a = c.args in
    let p = c.pair_anew-pair.ensures in
    let table = c.keep.ensures.table _ (both_by_rgb (entries a.self.now) a.width) p.0 p.1.pairs in
    let rows = rows_same _ _ c.keep.new.self p.1.shorts c.keep.ensures.rows in
    (p.0, subst (TableAndRows _ _) (sym c.note_last.ensures) (record { pairs = record { right = table.right }; shorts = record { right = rows.right } }))
