-- `mixing::mix_residual` meets its contract: three channels, and the sum of their squares. The check would find this alone; it is kept so that an edit's
-- refusal names the false fact. Assumes nothing.
use mathlib.Core.Path.{◌≡◌, ◌∙◌}
use lib.Ieee.{binary32, sub}
use Rattle.floats.specs.Bytes.{byte_f, dot}
use Rattle.mixing.specs.Lerp.{mix_of, mix_residual}
use Rattle.mixing.proofs.mix_residual.Goals as goal

pub returns : goal.returns
unfolding mix_residual byte_f
returns c =
    let green : c.mix-2.result ≡ mix_of c.args.a.0.g c.args.b.0.g c.args.t = c.mix-2.ensures in
    c.dot.ensures ∙ (λ i. let dr = sub binary32 (byte_f c.args.color.0.r) (c.mix.ensures i) in
    let dg = sub binary32 (byte_f c.args.color.0.g) (green i) in
    let db = sub binary32 (byte_f c.args.color.0.b) (c.mix-3.ensures i) in
    dot dr dg db dr dg db)
