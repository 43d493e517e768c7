-- The answers for `raster::copy`: its contract follows from its invariant.
use mathlib.Core.Path.{◌≡◌, refl, sym, ap, ◌∙◌}
use mathlib.Core.List.{[], ◌∷◌}
use Prim.Native.Nat.{ℕ, zero, suc, ◌+◌, ◌*◌, ◌<◌}
use native.Mathlib.Omega.{arith}
use lib.ListN.{length, get_or}
use Rattle.lists.proofs.FillLaws.{fill_begin, fill_set, fill_done}
use Rattle.lists.proofs.GatherLaws.{gather_only}
use Rattle.pam.proofs.raster.copy.Goals as goal

pub loop-i-init : goal.loop-i-init
loop-i-init c = fill_begin 1 _ _

pub loop-i-preserved : goal.loop-i-preserved
loop-i-preserved c = fill_set c.loop-i.invariant (omega (arith, c.requires, c.loop-i-test.true)) refl

pub returns : goal.returns
returns c =
    let from = c.args.from.now in
    let inv = c.loop-i.invariant in
    let n = c.loop-i.i in
    let e : length from ≡ 1 * n = omega (arith, inv.within, c.requires, c.loop-i-test.false) in
    fill_done inv (c.requires ∙ e)
    ∙ sym (gather_only 1 (λ j. get_or from j 0 ∷ []) (λ _. refl) 0 n from e (λ i j _ l. one i j l))
  where
    one : (i j : ℕ) → j < 1 → get_or c.args.from.now (1 * i + j) 0 ≡ get_or (get_or c.args.from.now i 0 ∷ []) j 0
    one i zero l = ap (λ (m : ℕ). get_or c.args.from.now m 0) (omega arith)
    one i (suc j) l = absurd (omega arith)
