-- `records::list::Records::two` meets its contract: the nearest, and the second of its shortlist. Assumes nothing.
use Rattle.std.proofs.Common.{◌≡◌, ℕ, ◌<◌, length, ap, sym, subst, ◌∙◌}
use Rattle.shortlist.specs.Nearest.{nearest_of}
use Rattle.shortlist.proofs.NearestLaws.{nearest_inside}
use Rattle.lookup.specs.Second.{second_beside, second_to, nearest_two_of}
use Rattle.records.specs.Lists.{candidates_of}
use Rattle.records.proofs.ListLaws.{accepted}
use Rattle.records.proofs.OtherLaws.{listed_inside, second_kept}
use Rattle.records.proofs.list.Records.two.Goals as goal

pub returns : goal.returns
unfolding nearest_two_of
returns c =
    let list = c.args.self.now.list.now in
    let cs = candidates_of list in
    let second : c.second_of.result ≡ second_to cs c.args.width c.args.color (nearest_of cs c.args.o) =
    c.second_of.ensures ∙ ap (second_beside cs.normalized c.nearest-a.result c.args.color) c.listed.ensures
    ∙ sym (second_kept list c.args.width c.args.color c.nearest-a.result c.list_others.new.short c.list_others.ensures)
    ∙ ap (second_to cs c.args.width c.args.color) c.nearest-a.ensures in
    λ i. record { first = c.nearest-a.ensures i; second = second i }

pub list_others-requires : goal.list_others-requires
list_others-requires c =
    let list = c.args.self.now.list.now in (
      subst (λ (k : ℕ). k < length list) (sym c.nearest-a.ensures)
          (nearest_inside (candidates_of list).oklab (length list) c.args.o (accepted list c.args.self.now.accepted).positive),
      c.new-short.ensures.count,
    )

pub second_of-requires : goal.second_of-requires
second_of-requires c =
    let list = c.args.self.now.list.now in
    let z = c.args.self.now.accepted in
    let i : c.nearest-a.result < length list =
    subst (λ (k : ℕ). k < length list) (sym c.nearest-a.ensures)
    (nearest_inside (candidates_of list).oklab (length list) c.args.o (accepted list z).positive) in
    (i, listed_inside list z c.nearest-a.result i c.args.width c.listed.result.now (c.listed.ensures ∙ c.list_others.ensures.places))
