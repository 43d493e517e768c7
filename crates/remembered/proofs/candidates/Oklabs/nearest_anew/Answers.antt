-- `Oklabs::nearest_anew` meets its contract: what a colour comes to is from -2 to 2. Assumes nothing.
use mathlib.Core.Path.{sym, subst}
use lib.Dec.{T}
use Rattle.color.specs.declared.Oklab.{Oklab}
use Rattle.color.specs.Oklab.{all_in_range}
use Rattle.conversion.specs.Oklab.{to_oklab}
use Rattle.color.proofs.Distances.{range_all_in}
use Rattle.conversion.proofs.OklabLaws.{ranged}
use borrow.Author.Rules.{rules}
use Rattle.remembered.proofs.candidates.Oklabs.nearest_anew.Goals as goal

pub nearest_position-requires : goal.nearest_position-requires
nearest_position-requires c = (
  c.args.self.ranged,
  subst (λ (o : Oklab). T (all_in_range o)) (sym c.to_oklab_with-o.ensures)
      (range_all_in (to_oklab c.args.color) (ranged c.args.color (search rules) (search rules) (search rules))),
  c.requires,
)
