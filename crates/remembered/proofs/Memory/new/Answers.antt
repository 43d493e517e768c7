-- `Memory::new` meets its contract: no place has a colour's key, and no row is an entry's. Assumes nothing.
use mathlib.Core.Path.{refl}
use Rattle.remembered.proofs.TableLaws.{table_none}
use Rattle.remembered.proofs.ShortLaws.{rows_none}
use Rattle.remembered.proofs.Memory.new.Goals as goal

pub returns : goal.returns
returns c = (λ f. table_none f _ refl, λ g. rows_none g _ refl)
