-- `diffusion::send_three` meets its contract: three sends, of which none changes the room that another needs. Assumes nothing.
use mathlib.Core.Path.{◌≡◌, sym, ap, ◌∙◌, subst}
use mathlib.Core.List.{List}
use Prim.Native.Nat.{ℕ, ◌+◌, ◌*◌, ◌<◌}
use native.Mathlib.Nat.{add-zero}
use native.Mathlib.Omega.{arith}
use lib.Dec.{lit<}
use lib.IntN.{ℤ, pos, ◌*ℤ◌}
use lib.ListN.{length}
use mir.Syntax.{w16}
use mir.ValLaws.{to_z-of_z}
use Rattle.diffusion.specs.Scatter.{more, send}
use Rattle.patterns.specs.Kernel.{pixel}
use Rattle.diffusion.specs.Sends.{RoomIn, RoomAt}
use Rattle.diffusion.proofs.Scatter.{more-length}
use Rattle.diffusion.proofs.Machine.{small_fits, room_kept}
use Rattle.diffusion.proofs.send_three.Goals as goal

-- the room of each channel, and that of a later channel after an earlier one's send
module _ (cells : List ℤ) (i w : ℕ) (inside : 3 * i + 2 < length cells) (room : RoomAt cells (pixel i) w) where
  red : RoomIn cells (3 * i) w
  red = subst (λ (n : ℕ). RoomIn cells n w) (add-zero (3 * i)) (room 0 (lit< tt))

  green : {once : List ℤ} (z : ℤ) → once ≡ more cells (3 * i) z → RoomIn once (3 * i + 1) w
  green z e =
      subst (λ (v : List ℤ). RoomIn v (3 * i + 1) w) (sym e)
      (room_kept cells (3 * i + 1) (3 * i) w z (omega (arith, inside)) (λ q. omega arith) (room 1 (lit< tt)))

  blue : {once twice : List ℤ} (z y : ℤ) → once ≡ more cells (3 * i) z → twice ≡ more once (3 * i + 1) y → RoomIn twice (3 * i + 2) w
  blue {once} z y e f =
      subst (λ (v : List ℤ). RoomIn v (3 * i + 2) w) (sym f)
      (room_kept once (3 * i + 2) (3 * i + 1) w y (omega (arith, long, inside)) (λ q. omega arith)
      (subst (λ (v : List ℤ). RoomIn v (3 * i + 2) w) (sym e)
      (room_kept cells (3 * i + 2) (3 * i) w z (omega (arith, inside)) (λ q. omega arith) (room 2 (lit< tt)))))
    where
      long : length once ≡ length cells
      long = ap length e ∙ more-length cells (3 * i) z

pub returns : goal.returns
unfolding send
returns c =
    let a = c.args in
    let s = a.residual in
    let w = a.weight in
    c.send_one-3.ensures
    ∙ (λ q. more (c.send_one-2.ensures q) (3 * a.i + 2) (to_z-of_z w16 s.b (small_fits s.b s.blue) q *ℤ pos w))
    ∙ (λ q. more (more (c.send_one.ensures q) (3 * a.i + 1) (to_z-of_z w16 s.g (small_fits s.g s.green) q *ℤ pos w)) (3 * a.i + 2) (s.b *ℤ pos w))
    ∙ (λ q. more (more (more a.cells.now (3 * a.i) (to_z-of_z w16 s.r (small_fits s.r s.red) q *ℤ pos w)) (3 * a.i + 1) (s.g *ℤ pos w)) (3 * a.i + 2) (s.b *ℤ pos w))

pub send_one-requires-2 : goal.send_one-requires-2
send_one-requires-2 c =
    let a = c.args in
    let first = c.send_one in (
      omega (arith, first.auto.cells, c.requires.0),
      rw (to_z-of_z w16 a.residual.g (small_fits a.residual.g a.residual.green)) a.residual.green,
      green a.cells.now a.i a.weight c.requires.0 c.requires.2 _ first.ensures,
    )

pub send_one-requires-3 : goal.send_one-requires-3
send_one-requires-3 c =
    let a = c.args in
    let first = c.send_one in
    let second = c.send_one-2 in (
      omega (arith, second.auto.cells, first.auto.cells, c.requires.0),
      rw (to_z-of_z w16 a.residual.b (small_fits a.residual.b a.residual.blue)) a.residual.blue,
      blue a.cells.now a.i a.weight c.requires.0 c.requires.2 _ _ first.ensures second.ensures,
    )
