-- `exports::badge_pick` meets its contract: 1, then 15, then 3, else the answer's case decides. Assumes nothing.
use mathlib.Core.Path.{sym, ap, ◌∙◌}
use mathlib.Core.Bool.{not}
use Rattle.exports.specs.Lookups.{picked_left}
use Rattle.exports.proofs.AnswerLaws.{left_by}
use Rattle.exports.proofs.LookupLaws.{pick_kind, pick_retired, pick_lengths, pick_is}
use Rattle.exports.proofs.badge_pick.Goals as goal

pub returns-then-not-is_kind : goal.returns-then-not-is_kind
returns-then-not-is_kind c =
    let a = c.args in
    (λ i. (c.from.ensures i, a.chosen.now))
    ∙ left_by (picked_left a.chosen.now) (pick_kind a.dark.now a.light.now a.ratio a.kind a.x a.y a.chosen.now
    (ap not (sym c.is_kind.ensures ∙ c.if-not-is_kind.true)))

pub returns-then-is_retired : goal.returns-then-is_retired
returns-then-is_retired c =
    let a = c.args in
    (λ i. (c.from-then-is_retired.ensures i, a.chosen.now))
    ∙ left_by (picked_left a.chosen.now) (pick_retired a.dark.now a.light.now a.ratio a.kind a.x a.y a.chosen.now
    (ap not (sym c.is_kind.ensures ∙ c.if-not-is_kind.false)) (sym c.is_retired.ensures ∙ c.if-is_retired.true))

pub returns-then-not-dark-light : goal.returns-then-not-dark-light
returns-then-not-dark-light c =
    let a = c.args in
    (λ i. (c.from-then-not-dark-light.ensures i, a.chosen.now))
    ∙ left_by (picked_left a.chosen.now) (pick_lengths a.dark.now a.light.now a.ratio a.kind a.x a.y a.chosen.now
    (ap not (sym c.is_kind.ensures ∙ c.if-not-is_kind.false)) (sym c.is_retired.ensures ∙ c.if-is_retired.false)
    (ap not c.if-not-dark-light.true))

-- ---- past the three tests
pub returns-in-Ok : goal.returns-in-Ok
returns-in-Ok c =
    let d = c.color_in in
    let l = c.color_in-2 in
    let a = c.args in
    (λ i. (0, c.put_color.ensures i))
    ∙ left_by (picked_left a.chosen.now)
    (pick_is a.dark.now a.light.now a.ratio a.kind a.x a.y a.chosen.now
    (ap not (sym c.is_kind.ensures ∙ c.if-not-is_kind.false)) (sym c.is_retired.ensures ∙ c.if-is_retired.false)
    (ap not c.if-not-dark-light.false) d.result l.result d.ensures l.ensures _ _ c.pick.ensures c.in-Ok.is)

pub returns-in-Err : goal.returns-in-Err
returns-in-Err c =
    let d = c.color_in in
    let l = c.color_in-2 in
    let a = c.args in
    (λ i. (c.from-in-Err.ensures i, a.chosen.now))
    ∙ left_by (picked_left a.chosen.now)
    (pick_is a.dark.now a.light.now a.ratio a.kind a.x a.y a.chosen.now
    (ap not (sym c.is_kind.ensures ∙ c.if-not-is_kind.false)) (sym c.is_retired.ensures ∙ c.if-is_retired.false)
    (ap not c.if-not-dark-light.false) d.result l.result d.ensures l.ensures _ _ c.pick.ensures c.in-Err.is)
