-- `Candidates::bracket_positions` meets its contract: by whether there is a second. Assumes nothing.
use mathlib.Core.Path.{ap, ◌∙◌}
use Rattle.conversion.specs.Oklab.{to_oklab}
use Rattle.lookup.specs.Bracket.{bracket_two, bracket_at_of}
use Rattle.lookup.specs.declared.Two.{Two}
use Rattle.lookup.proofs.TwoLaws.{first_entry, second_entry}
use Rattle.remembered.specs.Lent.{entries}
use Rattle.remembered.proofs.candidates.Candidates.bracket_positions.Goals as goal

pub bracket_of_two-requires : goal.bracket_of_two-requires
bracket_of_two-requires c =
    let a = c.args in
    let cs = entries a.self.now in
    let t = c.pair_positions in (
      first_entry cs a.width (to_oklab a.color) a.color t.result t.ensures.0 c.requires.0,
      second_entry cs a.width (to_oklab a.color) a.color t.result t.ensures.0 c.requires.0 a.self.now.oklabs.ranged.range,
    )

pub returns : goal.returns
unfolding bracket_at_of
returns c =
    let cs = entries c.args.self.now in
    let t = c.pair_positions.ensures in
    (c.bracket_of_two.ensures ∙ ap (λ (two : Two). bracket_two cs.oklab cs.normalized c.args.color two.first two.second) t.0, t.1)
