-- `color::normalize_color` meets its contract: four look-ups. The check would find this alone; it is kept so that an edit's refusal names the false fact.
-- Assumes nothing.
use Rattle.color.specs.Tables.{normalize_color}
use Rattle.color.proofs.normalize_color.Goals as goal

pub returns : goal.returns
unfolding normalize_color
returns c =
    λ i. record {
      0 = record {
        r = c.looked_up.ensures i;
        g = c.looked_up-2.ensures i;
        b = c.looked_up-3.ensures i;
        a = c.looked_up-4.ensures i;
      };
    }
