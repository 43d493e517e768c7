-- `drawing::Ditherer::ordered_color_at` meets its contract: what is picked of the bracket, whose positions are entries. Assumes nothing.
use Rattle.lookup.proofs.BracketLaws.{bracket_entries}
use Rattle.remembered.specs.Lent.{entries}
use Rattle.drawing.proofs.StepLaws.{ordered_is}
use Rattle.drawing.proofs.Ditherer.ordered_color_at.Goals as goal

pub bracket_at-bracket-requires : goal.bracket_at-bracket-requires
bracket_at-bracket-requires c =
    let cs = c.args.candidates.now in
    bracket_entries (entries cs) _ _ _ _ c.bracket_positions-at.ensures.0 c.requires.0 cs.oklabs.ranged.range

pub returns : goal.returns
returns c =
    let cs = c.args.candidates.now in
    let at = c.bracket_positions-at.ensures in (
      ordered_is (entries cs) _ _ _ at.0 c.requires.0 cs.oklabs.ranged.range c.args.self.kind _ _ _ _ _ _ _
          c.bracket_at-bracket.ensures c.source_column-x.ensures c.source_row-y.ensures c.threshold_at.ensures c.pick_at.ensures,
      at.1,
    )
