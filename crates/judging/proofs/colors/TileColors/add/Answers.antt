-- `TileColors::add` meets its contract: a colour that is not among the first joins them. Assumes nothing.
use mathlib.Core.Path.{sym, ap, ◌∙◌}
use native.Mathlib.Omega.{arith}
use lib.ListN.{length, take, length-map}
use lib.Seq.{length-take-le}
use Rattle.judging.specs.Keys.{color_with_key}
use Rattle.judging.proofs.KeyLaws.{any_has, joins, joins_not}
use Rattle.judging.proofs.colors.TileColors.add.Goals as goal

pub returns-then-not-contains : goal.returns-then-not-contains
returns-then-not-contains c =
    let s = c.self.inside in
    rw (← c.self.view_is)
    (joins s.keys s.count c.key_of-key.result c.key_of-key.ensures
    (omega (arith, length-map (take s.count s.keys) color_with_key, length-take-le s.count s.keys c.self.invariant, ap length c.self.view_is))
    (sym (any_has c.key_of-key.result _) ∙ sym c.contains.ensures.value ∙ c.if-not-contains.true))

pub returns-else-not-contains : goal.returns-else-not-contains
returns-else-not-contains c =
    let s = c.self.inside in
    rw (← c.self.view_is)
    (joins_not s.keys s.count c.key_of-key.result c.key_of-key.ensures (sym (any_has c.key_of-key.result _) ∙ sym c.contains.ensures.value ∙ c.if-not-contains.false))
