-- The answers for `list::put_list_oklab`: its contract follows from its invariant.
use mathlib.Core.Path.{refl}
use native.Mathlib.Omega.{arith}
use Rattle.color.specs.Color.{reduced_at}
use Rattle.lists.proofs.FillLaws.{fill_begin, fill_store}
use Rattle.conversion.specs.Lists.{oklab_floats}
use Rattle.conversion.proofs.list.put_list_oklab.Goals as goal

pub loop-i-init : goal.loop-i-init
loop-i-init c = let a = c.args in fill_begin 3 (oklab_floats a.scale.now (reduced_at a.colors.now)) a.oklab.now

pub loop-i-preserved : goal.loop-i-preserved
loop-i-preserved c = fill_store c.loop-i.invariant (λ j. refl) (omega arith) c.put_color_oklab.ensures
