-- The public call of `conversion` leaves one answer. Assumes nothing.
use Rattle.replies.specs.Unique.{Unique}
use Rattle.replies.proofs.UniqueLaws.{equal_only}
use Rattle.color.specs.declared.NormalizedColor.{NormalizedColor}
use Rattle.color.specs.declared.Oklab.{Oklab}
use Rattle.conversion.specs.Oklab.{to_oklab, ToOklabAnswered}

pub to_oklab_unique : (c : NormalizedColor) → Unique (λ (o : Oklab). ToOklabAnswered c o)
to_oklab_unique c = equal_only (to_oklab c)
