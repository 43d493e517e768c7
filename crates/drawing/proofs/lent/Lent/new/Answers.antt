-- `drawing::Lent::new` meets its contract. Assumes nothing.
use Rattle.drawing.proofs.lent.Lent.new.Goals as goal

pub invariant_of-result : goal.invariant_of-result
invariant_of-result c = record { reduces = c.requires.2; scales = c.requires.3 }
