-- `Memory::keep` meets its contract: a colour's answer more, if its positions have 16 bits. Assumes nothing.
use mathlib.Core.Path.{refl, ◌∙◌}
use native.Mathlib.Omega.{arith}
use borrow.Author.Rules.{rules}
use Rattle.mixing.specs.Lerp.{Bytes}
use Rattle.remembered.proofs.TableLaws.{table_more}
use Rattle.remembered.proofs.Memory.keep.Goals as goal

pub returns-in-Ok-clause-table : goal.returns-in-Ok-clause-table
returns-in-Ok-clause-table c =
    let s : Bytes c.args.c = record { r = search rules; g = search rules; b = search rules } in
    λ f by e kept. table_more f c.args.self.now _ kept by c.args.c c.slot_of.result (record { key = c.key_of-key.result; pair = c.in-Ok.pair }) s
    (omega arith) c.key_of-key.ensures.0 (c.in-Ok.ensures ∙ e) refl
