-- `Memory::recalled` meets its contract: what stands beside the colour's key is its answer. Assumes nothing.
use mathlib.Core.Path.{◌∙◌}
use borrow.Author.Rules.{rules}
use Rattle.mixing.specs.Lerp.{Bytes}
use Rattle.remembered.proofs.Memory.recalled.Goals as goal

pub returns-then-known-key : goal.returns-then-known-key
returns-then-known-key c =
    let s : Bytes c.args.c = record { r = search rules; g = search rules; b = search rules } in
    λ f kept. c.from.ensures ∙ kept.right _ c.slot_of.ensures c.args.c s _ (c.if-known-key.true ∙ c.key_of-key.ensures.0)
