-- `key_of` meets its contract: by `color_of_lem`. Assumes nothing.
use mathlib.Core.Path.{refl}
use native.Mathlib.Omega.{arith}
use Rattle.judging.proofs.KeyLaws.{color_of_lem}
use Rattle.judging.proofs.colors.key_of.Goals as goal

pub returns : goal.returns
returns c = color_of_lem c.args.color.0 c.args.color.0 (omega arith) (omega arith) (omega arith) refl
