-- The worked examples that are marked P hold: in every row of the table the definitions give what the document says. By computation. Assumes nothing.
use mathlib.Core.Path.{◌≡◌, refl}
use mathlib.Core.List.{map}
use lib.Ieee.{round, add, sub, mul, div, eq, lt, of_int}
use Rattle.floats.specs.Over.{over}
use Rattle.floats.specs.Bytes.{byte_f, dot}
use Rattle.mixing.specs.Lerp.{byte_minus, along, share_of, clamp_of, lerp_of}
use Rattle.mixing.specs.Widths.{is_shift, width_of}
use Rattle.patterns.specs.Kinds.{kind_of, way_of, is_kind, is_retired, is_ordered}
use Rattle.patterns.specs.Thresholds.{threshold_from, threshold_at}
use Rattle.conversion.specs.Linear.{linear_of}
use Rattle.conversion.specs.Root.{digits, root_of}
use Rattle.conversion.specs.Nearest.{nearest}
use Rattle.patterns.specs.Kernel.{total, place, landing}
use Rattle.diffusion.specs.Biased.{halves, clip, biased_of}
use Rattle.diffusion.specs.Sum.{sum}
use Rattle.diffusion.specs.Diffusion.{is_at, weight_to, residual_of, received, cell, residual, loss_of, loss}
use Rattle.diffusion.specs.Account.{over_dithered, sources, choices, excess, lost, sent, sent_to, is_skipped, is_outside, to_skipped, dropped, held}
use Rattle.examples.specs.Table.{Row, table}

pub examples : map (λ (r : Row). r.given) table ≡ map (λ (r : Row). r.said) table
unfolding round add sub mul div eq lt of_int over byte_f dot byte_minus along share_of clamp_of lerp_of is_shift width_of kind_of way_of is_kind is_retired is_ordered threshold_from
    threshold_at linear_of digits root_of nearest halves clip biased_of total place landing sum is_at weight_to residual_of received cell residual loss_of loss
    over_dithered sources choices excess lost sent sent_to is_skipped is_outside to_skipped dropped held
examples = refl
