-- Line V's threshold at x = 0 is 0.75 in every row, which the worked example E2 says without a row. Assumes nothing.
use mathlib.Core.Path.{◌≡◌, refl, sym, ◌∙◌}
use Prim.Native.Nat.{ℕ, ◌%◌}
use native.Mathlib.Nat.{mod-lt, mod-mod}
use lib.Dec.{lit<}
use lib.IntN.{pos}
use lib.Ieee.{round, add, div, of_int}
use Rattle.floats.specs.Over.{over}
use Rattle.std.specs.Prelude.{Ok}
use Rattle.patterns.specs.Kinds.{kind_of, way_of, is_kind, is_retired, is_ordered}
use Rattle.patterns.specs.Thresholds.{threshold_from, threshold_at, threshold_of}
use Rattle.lists.proofs.Computed.{agree}
use Rattle.patterns.proofs.Thresholds.{repeats}

pub line_v_lem : (y : ℕ) → threshold_of 7 0 y ≡ Ok (over 4 (pos 3))
unfolding is_kind is_retired is_ordered threshold_at way_of kind_of threshold_from over add div of_int round
line_v_lem y =
    repeats 7 0 y 0 (y % 2) refl (sym (mod-mod y 2))
    ∙ agree (λ r. threshold_of 7 0 r) (λ r. Ok (over 4 (pos 3))) 2 refl (y % 2) (mod-lt y (lit< tt))
