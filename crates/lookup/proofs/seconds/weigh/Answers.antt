-- `seconds::weigh` meets its contract: by what its calls ensure. Assumes nothing.
use mathlib.Core.Path.{ap, ◌∙◌}
use Rattle.color.specs.declared.NormalizedColor.{NormalizedColor}
use Rattle.lookup.specs.Second.{weighed}
use Rattle.lookup.proofs.SecondLaws.{weighed_is}
use Rattle.lookup.proofs.seconds.weigh.Goals as goal

pub returns : goal.returns
returns g c =
    let a = c.args in
    weighed_is a.best c.improve.result a.k a.c1 c.normal_at-c2.result a.color c.lerp-t.result c.is_share.result c.mix_residual.result c.lerp-t.ensures
    c.is_share.ensures c.mix_residual.ensures c.improve.ensures
    ∙ ap (λ (b : NormalizedColor). weighed a.best a.k a.c1 b a.color) c.normal_at-c2.ensures
