-- `brackets::bracket_between` meets its contract: by which of the two is lighter. Assumes nothing.
use mathlib.Core.Path.{◌∙◌}
use mathlib.Core.Bool.{true}
use lib.Ieee.{of_bits}
use Rattle.mixing.specs.Lerp.{lerp_of}
use Rattle.lookup.proofs.BracketLaws.{lighter, darker}
use Rattle.lookup.proofs.brackets.bracket_between.Goals as goal

pub returns-then-q-p : goal.returns-then-q-p
returns-then-q-p g c =
    let l = g.E.Entries.listed c.args.entries.now in
    let a = c.args.a in
    let b = c.args.b in
    lighter l.oklab a b (l.normalized a) (l.normalized b) c.args.color c.oklab_at-p.result c.oklab_at-q.result c.lerp-t.result c.oklab_at-p.ensures
    c.oklab_at-q.ensures (c.lerp-t.ensures ∙ (λ i. lerp_of (c.normal_at.ensures i) (c.normal_at-2.ensures i) c.args.color true)) c.if-q-p.true

pub returns : goal.returns
unfolding of_bits
returns g c =
    let l = g.E.Entries.listed c.args.entries.now in
    let a = c.args.a in
    let b = c.args.b in
    darker l.oklab a b (l.normalized a) (l.normalized b) c.args.color c.oklab_at-p.result c.oklab_at-q.result c.lerp-t.result c.oklab_at-p.ensures
    c.oklab_at-q.ensures (c.lerp-t.ensures ∙ (λ i. lerp_of (c.normal_at.ensures i) (c.normal_at-2.ensures i) c.args.color true)) c.if-q-p.false
