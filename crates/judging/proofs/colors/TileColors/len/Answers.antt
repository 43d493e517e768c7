-- `TileColors::len` meets its contract: so many are taken. Assumes nothing.
use mathlib.Core.Path.{sym, ◌∙◌}
use lib.ListN.{take, length-map}
use lib.Seq.{length-take-le}
use Rattle.judging.specs.Keys.{color_with_key}
use Rattle.judging.proofs.colors.TileColors.len.Goals as goal

pub returns : goal.returns
returns c =
    let s = c.self.inside in
    rw (← c.self.view_is) (sym (length-map (take s.count s.keys) color_with_key ∙ length-take-le s.count s.keys c.self.invariant))
