-- A promise that is an equality with a definition leaves one result. Assumes nothing.
use mathlib.Core.Path.{◌≡◌, sym, ◌∙◌}
use Rattle.replies.specs.Unique.{Unique}

pub equal_only : {A : Type 0} (defined : A) → Unique (λ (r : A). r ≡ defined)
equal_only defined x y p q = p ∙ sym q
