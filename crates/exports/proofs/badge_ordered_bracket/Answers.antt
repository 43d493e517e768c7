-- `exports::badge_ordered_bracket` meets its contract: 3 where dark or light is not four bytes, else the answer's case decides; the
-- positions fit. Assumes nothing.
use native.Mathlib.Omega.{arith}
use mathlib.Core.Path.{◌∙◌, ap}
use mathlib.Core.Bool.{not}
use Rattle.exports.specs.Lookups.{bracket_left}
use Rattle.exports.proofs.AnswerLaws.{left_by}
use Rattle.exports.proofs.LookupLaws.{ends_small, bracket_lengths, bracket_four}
use Rattle.exports.proofs.badge_ordered_bracket.Goals as goal

pub returns-then-not-dark-light : goal.returns-then-not-dark-light
returns-then-not-dark-light c =
    let a = c.args in
    (λ i. (c.from.ensures i, a.dark.now, a.light.now, a.ratio.now, a.dark_position.now, a.light_position.now))
    ∙ left_by (bracket_left a.dark.now a.light.now a.ratio.now a.dark_position.now a.light_position.now)
    (bracket_lengths a.reduced.now a.normalized.now a.oklab.now a.r a.g a.b a.width a.dark.now a.light.now
    (ap not c.if-not-dark-light.true))

pub overflow_cast-dark_at : goal.overflow_cast-dark_at
overflow_cast-dark_at c =
    let a = c.args in
    omega (
      arith,
      (ends_small a.reduced.now a.normalized.now a.oklab.now c.new-color.result a.width c.flat_ordered_bracket.ensures c.in-Ok.is).0,
    )

pub overflow_cast-light_at : goal.overflow_cast-light_at
overflow_cast-light_at c =
    let a = c.args in
    omega (
      arith,
      (ends_small a.reduced.now a.normalized.now a.oklab.now c.new-color.result a.width c.flat_ordered_bracket.ensures c.in-Ok.is).1,
    )

pub returns-in-Ok : goal.returns-in-Ok
returns-in-Ok c =
    let n = c.new-color in
    let a = c.args in
    let e = bracket_four a.reduced.now a.normalized.now a.oklab.now a.r a.g a.b a.width a.dark.now a.light.now
    (ap not c.if-not-dark-light.false) n.result n.ensures c.flat_ordered_bracket.ensures c.in-Ok.is in
    (λ i. (
      0,
      c.put_color.ensures i,
      c.put_color-in-Ok.ensures i,
      c.in-Ok.bracket.ratio,
      c.in-Ok.bracket.dark_position,
      c.in-Ok.bracket.light_position,
    ))
    ∙ left_by (bracket_left a.dark.now a.light.now a.ratio.now a.dark_position.now a.light_position.now) e

pub returns-in-Err : goal.returns-in-Err
returns-in-Err c =
    let n = c.new-color in
    let a = c.args in
    let e = bracket_four a.reduced.now a.normalized.now a.oklab.now a.r a.g a.b a.width a.dark.now a.light.now
    (ap not c.if-not-dark-light.false) n.result n.ensures c.flat_ordered_bracket.ensures c.in-Err.is in
    (λ i. (c.from-in-Err.ensures i, a.dark.now, a.light.now, a.ratio.now, a.dark_position.now, a.light_position.now))
    ∙ left_by (bracket_left a.dark.now a.light.now a.ratio.now a.dark_position.now a.light_position.now) e
