-- `at` of the rests meets its contract: the bytes hold the rests. Assumes nothing.
use mathlib.Core.Path.{◌∙◌}
use Prim.Native.Nat.{◌+◌, ◌*◌}
use native.Mathlib.Nat.{mul_comm}
use native.Mathlib.Omega.{arith}
use lib.ListN.{get_or}
use Rattle.conversion.proofs.LinearLaws.{rest_value, value_small}
use borrow.Author.Rules.{rules}
use Rattle.conversion.proofs.linear.RestsLinearValues.at.Goals as goal

pub returns : goal.returns
returns c =
    let rests = c.args.self.now.bytes.now in
    let high = mul_comm (get_or rests (2 * c.args.k + 1) 0) 256 in
    (λ q. c.curve.ensures q + (c.from_le_bytes.ensures ∙ (λ r. get_or rests (2 * c.args.k) 0 + high r)) q)
    ∙ rest_value rests c.args.k c.args.self.now.of_values (search rules)

pub overflow_add-result : goal.overflow_add-result
overflow_add-result c = omega (arith, value_small _ _ (returns c) (search rules))
