-- `replay::list_buffer` meets its contract: the length of a repeat, by its law. Assumes nothing.
use mathlib.Core.Path.{sym}
use Prim.Native.Nat.{ℕ}
use lib.ListN.{length-replicate}
use Rattle.replay.proofs.list_buffer.Goals as goal

pub returns : goal.returns
returns c = sym (length-replicate {A = ℕ} 600000 0)
