-- `patterns::threshold_from` meets its contract: the literal is a half. Assumes nothing.
use mathlib.Core.Path.{ap}
use lib.IntN.{pos}
use lib.Ieee.{Float, binary32, add, div, of_int}
use Rattle.patterns.specs.Thresholds.{threshold_from}
use Rattle.patterns.proofs.Thresholds.{half}
use Rattle.patterns.proofs.threshold_from.Goals as goal

pub returns : goal.returns
unfolding threshold_from
returns c =
    let args = c.args in
    ap (λ (v : Float). div binary32 (add binary32 (of_int binary32 (pos args.entry)) v) args.n) half
