-- `records::list::Records::bracket` meets its contract: the reduced colours at the bracket's positions. Assumes nothing.
use Rattle.std.proofs.Common.{ap, ◌∙◌}
use Rattle.lookup.specs.Bracket.{colored}
use Rattle.lookup.proofs.TwoLaws.{first_entry, second_entry}
use Rattle.lookup.proofs.BracketLaws.{bracket_is, bracket_entries}
use Rattle.records.specs.Lists.{candidates_of}
use Rattle.records.proofs.ListLaws.{accepted}
use Rattle.records.proofs.list.Records.bracket.Goals as goal

pub returns : goal.returns
returns c =
    let cs = candidates_of c.args.self.now.list.now in
    let a = c.args in
    let p = c.bracket_of_two-at in
    c.bracket_at.ensures ∙ ap (colored _) (bracket_is cs a.width a.o a.color c.two.result c.two.ensures p.result p.ensures)

pub bracket_of_two-at-requires : goal.bracket_of_two-at-requires
bracket_of_two-at-requires c =
    let list = c.args.self.now.list.now in
    let A = accepted list c.args.self.now.accepted in
    let cs = candidates_of list in
    let a = c.args in (
      first_entry cs a.width a.o a.color c.two.result c.two.ensures A.positive,
      second_entry cs a.width a.o a.color c.two.result c.two.ensures A.positive A.range,
    )

pub bracket_at-requires : goal.bracket_at-requires
bracket_at-requires c =
    let list = c.args.self.now.list.now in
    let A = accepted list c.args.self.now.accepted in
    let cs = candidates_of list in
    let a = c.args in
    let p = c.bracket_of_two-at in
    bracket_entries cs a.width a.o a.color p.result (bracket_is cs a.width a.o a.color c.two.result c.two.ensures p.result p.ensures) A.positive A.range
