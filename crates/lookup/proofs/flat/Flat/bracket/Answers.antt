-- `Flat::bracket` meets its contract: the reduced colours of the bracket's positions. Assumes nothing.
use mathlib.Core.Path.{ap, ◌∙◌}
use Rattle.shortlist.specs.Candidates.{flat}
use Rattle.lookup.specs.Bracket.{colored}
use Rattle.lookup.proofs.ListLaws.{accepted}
use Rattle.lookup.proofs.TwoLaws.{first_entry, second_entry}
use Rattle.lookup.proofs.BracketLaws.{bracket_is, bracket_entries}
use Rattle.lookup.proofs.flat.Flat.bracket.Goals as goal

pub bracket_of_two-at-requires : goal.bracket_of_two-at-requires
bracket_of_two-at-requires c =
    let l = c.args.self.now in
    let A = accepted l.reduced.now l.normalized.now l.oklab.now l.accepted in
    let cs = flat l.reduced.now l.normalized.now l.oklab.now in
    let a = c.args in (
      first_entry cs a.width a.o a.color c.two.result c.two.ensures A.positive,
      second_entry cs a.width a.o a.color c.two.result c.two.ensures A.positive A.ranged.range,
    )

pub bracket_at-requires : goal.bracket_at-requires
bracket_at-requires c =
    let l = c.args.self.now in
    let A = accepted l.reduced.now l.normalized.now l.oklab.now l.accepted in
    let cs = flat l.reduced.now l.normalized.now l.oklab.now in
    let a = c.args in
    let p = c.bracket_of_two-at in
    bracket_entries cs a.width a.o a.color p.result (bracket_is cs a.width a.o a.color c.two.result c.two.ensures p.result p.ensures) A.positive
    A.ranged.range

pub returns : goal.returns
returns c =
    let l = c.args.self.now in
    let a = c.args in
    let p = c.bracket_of_two-at in
    c.bracket_at.ensures
    ∙ ap (colored _) (bracket_is (flat l.reduced.now l.normalized.now l.oklab.now) a.width a.o a.color c.two.result c.two.ensures p.result p.ensures)
