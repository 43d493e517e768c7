-- `conversion::list::put_color_oklab` meets its contract: the colour read, normalised, converted and put in its place. Assumes nothing.
use mathlib.Core.Path.{ap, ◌∙◌}
use Rattle.color.specs.declared.Rgba8888.{Rgba8888}
use Rattle.color.specs.declared.Oklab.{Oklab}
use Rattle.color.specs.Tables.{normalize_color}
use Rattle.color.specs.Oklab.{floats_of}
use Rattle.conversion.specs.Oklab.{to_oklab}
use lib.Seq.{sets}
use Prim.Native.Nat.{◌*◌}
use Rattle.conversion.proofs.list.put_color_oklab.Goals as goal

pub returns : goal.returns
returns c =
    let full = c.normalize_color.ensures ∙ ap (λ (x : Rgba8888). normalize_color c.args.scale.now (record { 0 = x })) c.rgba_at.ensures in
    c.put_oklab.ensures ∙ ap (λ (x : Oklab). sets c.args.oklab.now (3 * c.args.i) (floats_of x)) (c.to_oklab_with-o.ensures ∙ ap to_oklab full)
