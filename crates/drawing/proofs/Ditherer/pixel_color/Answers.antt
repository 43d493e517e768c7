-- `drawing::Ditherer::pixel_color` meets its contract: a skipped pixel keeps its reduced colour and leaves the cells alone; any other chooses by its own
-- colour, or by its biased one, whose residual is passed on. Assumes nothing.
use mathlib.Core.Path.{sym, ap, ◌∙◌}
use mathlib.Core.Bool.{not}
use Prim.Native.Nat.{ℕ, ◌+◌}
use native.Mathlib.Nat.{le_of_lt}
use borrow.Author.Tests.{ne_eqb}
use lib.Dec.{eqb}
use Rattle.drawing.specs.Lent.{lent_by, reduced_lent, drawing_of}
use Rattle.drawing.proofs.PositionLaws.{takes_skipped}
use Rattle.drawing.proofs.TurnLaws.{turn_length, turn_room, turn_choice, turn_passed, by_yes, by_no, by_skipped}
use Rattle.drawing.proofs.StepLaws.{plain_is, placed, seen_as, unseen_own, unseen_skipped, seen_skipped, kept_case, unkept}
use Rattle.drawing.proofs.Ditherer.pixel_color.Goals as goal

pub diffusion_color_at-requires : goal.diffusion_color_at-requires
diffusion_color_at-requires g c =
    let a = c.args in
    let l = lent_by a.lent.now in
    let p = c.requires in
    let none = unkept a.zero (reduced_lent l a.i) c.kept_zero.ensures c.in_default.is in
    let dithers = seen_skipped a.zero (reduced_lent l) a.i (seen_as l a.i c.is_seen-seen.ensures c.if-not-seen.false) none in
    let diffuses = p.1 ∙ ap not (ne_eqb g.row.DIFFUSES 0 c.if-this-ne0.true) in
    let cells = p.4 ∙ sym (by_yes (drawing_of a.self a.zero l) _ diffuses a.i) in (
      p.0.some a.i p.2 dithers,
      placed p.0 _ p.2,
      diffuses,
      turn_length _ _ _ (le_of_lt p.2) cells,
      turn_room a.self a.zero l a.lent.now.scales _ _ (le_of_lt p.2) cells,
      p.3,
    )

pub returns-then-this-ne0 : goal.returns-then-this-ne0
returns-then-this-ne0 g c =
    let a = c.args in
    let l = lent_by a.lent.now in
    let p = c.requires in
    let none = unkept a.zero (reduced_lent l a.i) c.kept_zero.ensures c.in_default.is in
    let dithers = seen_skipped a.zero (reduced_lent l) a.i (seen_as l a.i c.is_seen-seen.ensures c.if-not-seen.false) none in
    let diffuses = p.1 ∙ ap not (ne_eqb g.row.DIFFUSES 0 c.if-this-ne0.true) in
    let d = drawing_of a.self a.zero l in
    let cells = p.4 ∙ sym (by_yes d _ diffuses a.i) in
    let own = c.source_at-color.ensures in
    let called = c.diffusion_color_at.ensures in (
      turn_choice a.self a.zero l _ p.2 dithers diffuses _ own _ _ _ cells called.0,
      called.1,
      turn_passed a.self a.zero l _ p.2 dithers diffuses _ own _ _ _ cells called.0 ∙ by_yes d _ diffuses (a.i + 1),
    )

pub color_at-requires : goal.color_at-requires
color_at-requires g c =
    let a = c.args in
    let l = lent_by a.lent.now in
    let p = c.requires in
    let none = unkept a.zero (reduced_lent l a.i) c.kept_zero.ensures c.in_default.is in
    let dithers = seen_skipped a.zero (reduced_lent l) a.i (seen_as l a.i c.is_seen-seen.ensures c.if-not-seen.false) none in
    (p.0.some a.i p.2 dithers, placed p.0 _ p.2, p.3)

pub returns : goal.returns
returns g c =
    let a = c.args in
    let l = lent_by a.lent.now in
    let p = c.requires in
    let none = unkept a.zero (reduced_lent l a.i) c.kept_zero.ensures c.in_default.is in
    let dithers = seen_skipped a.zero (reduced_lent l) a.i (seen_as l a.i c.is_seen-seen.ensures c.if-not-seen.false) none in
    let plain = p.1 ∙ ap (λ (n : ℕ). not (eqb n 0)) c.if-this-ne0.false in
    let called = c.color_at.ensures in
    (plain_is a.self a.zero l a.i _ _ dithers plain c.source_at-color.ensures called.0, called.1, by_no (drawing_of a.self a.zero l) _ plain (a.i + 1))

pub returns-in-Some : goal.returns-in-Some
returns-in-Some g c =
    let a = c.args in
    let l = lent_by a.lent.now in
    let p = c.requires in
    let own = kept_case a.zero (reduced_lent l a.i) c.kept_zero.ensures c.in-Some.is in
    let skips = seen_skipped a.zero (reduced_lent l) a.i (seen_as l a.i c.is_seen-seen.ensures c.if-not-seen.false) own.0 in
    let kept = c.keeping-in-Some.ensures in
    (takes_skipped _ _ _ skips (kept.0 ∙ own.1) kept.1, p.3, by_skipped _ _ _ skips p.4)

pub returns-then-not-seen : goal.returns-then-not-seen
returns-then-not-seen g c =
    let a = c.args in
    let l = lent_by a.lent.now in
    let p = c.requires in
    let unseen = seen_as l a.i c.is_seen-seen.ensures c.if-not-seen.true in
    let skips = unseen_skipped a.zero (reduced_lent l) a.i unseen in
    let kept = c.keeping.ensures in
    (takes_skipped _ _ _ skips (kept.0 ∙ unseen_own l a.i unseen) kept.1, p.3, by_skipped _ _ _ skips p.4)
