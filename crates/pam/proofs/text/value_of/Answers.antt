-- `pam::text::value_of` meets its contract: the bound is kept at each digit. Assumes nothing.
use mathlib.Core.Path.{◌≡◌, refl, ◌∙◌}
use Prim.Native.Nat.{ℕ, ◌+◌, ◌*◌, ◌-◌}
use borrow.Author.Rules.{rules}
use Rattle.std.specs.List.{fold}
use Rattle.pam.specs.Reading.{capped}
use Rattle.pam.proofs.TextLaws.{value_capped}
use Rattle.pam.proofs.text.value_of.Goals as goal

pub returns : goal.returns
returns c =
    let each : c.fold.result ≡ fold (λ (n d : ℕ). capped (10 * n + (d - 48))) 0 c.args.digits.now = search rules in
    each ∙ value_capped 0 0 c.args.digits.now refl
