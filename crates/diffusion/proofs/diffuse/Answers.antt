-- `diffusion::diffuse` meets its contract: by the invariant, where the cells have room for the next target's send. Assumes nothing.
use mathlib.Core.Path.{◌≡◌, refl, sym, ap, ◌∙◌, subst}
use mathlib.Core.List.{List}
use Prim.Native.Nat.{ℕ, ◌+◌, ◌*◌, ◌<◌}
use native.Mathlib.Nat.{mul-le-mul}
use native.Mathlib.Omega.{arith}
use lib.IntN.{ℤ}
use lib.ListN.{get_or, take}
use Rattle.std.specs.Prelude.{Option}
use Rattle.patterns.specs.Kernel.{Place, pixel, outside, landing}
use Rattle.diffusion.specs.Scatter.{send, sends}
use Rattle.diffusion.specs.Sends.{place_of, in_order, RoomAt}
use Rattle.diffusion.proofs.Landings.{landing-inside}
use Rattle.diffusion.proofs.Targets.{none, near_at, residuals_small, next_room, next}
use Rattle.diffusion.proofs.diffuse.Goals.{in-Some, in_default}
use Rattle.diffusion.proofs.diffuse.Goals as goal

pub loop-target-init : goal.loop-target-init
unfolding sends
loop-target-init c = refl

pub landing-requires : goal.landing-requires
landing-requires c = near_at c.args.kernel.now c.loop-target.target-index c.requires.1 c.loop-target-test.true

pub send_three-requires : goal.send_three-requires
send_three-requires c =
    let a = c.args in
    let s = a.spot in
    let k = a.kernel.now in
    let j = s.y * s.width + s.x in
    let m = c.loop-target.target-index in
    let i = c.in-Some.i in
    let here : pixel i ≡ landing s.width s.height j (get_or k m none) = sym (ap place_of c.in-Some.is) ∙ c.landing.ensures in
    let there : i < s.width * s.height = landing-inside s.width s.height j (get_or k m none) i (sym here) in
    let area = mul-le-mul s.wide s.high in (
      omega (arith, c.requires.0, c.loop-target.auto.cells, there),
      omega (arith, there, area),
      subst (λ (v : List ℤ). RoomAt v (pixel i) (get_or k m none).weight) (sym c.loop-target.invariant)
          (next_room s.width s.height j a.cells.now (in_order a.residual) c.requires.0 (residuals_small a.residual) k c.requires.2 m c.loop-target-test.true (pixel i) here),
    )

-- what was sent, by where the target lies
none_sent : (cells : List ℤ) (rs : ℕ → ℤ) (w : ℕ) → cells ≡ send cells rs outside w
unfolding send
none_sent cells rs w = refl

pub loop-target-preserved : goal.loop-target-preserved
loop-target-preserved c =
    let a = c.args in
    let s = a.spot in
    let k = a.kernel.now in
    let j = s.y * s.width + s.x in
    let m = c.loop-target.target-index in
    let rs = in_order a.residual in
    let w = (get_or k m none).weight in
    let sent : (o : Option ℕ) → c.landing.result ≡ o → send c.loop-target.cells rs (place_of o) w ≡ sends a.cells.now rs (take (m + 1) k) s.width s.height j =
    λ o e. ap (λ (p : Place). send c.loop-target.cells rs p w) (sym (ap place_of e))
    ∙ (λ q. send (c.loop-target.invariant q) rs (c.landing.ensures q) w)
    ∙ next s.width s.height j k a.cells.now rs m c.loop-target-test.true in
    elim c.match-landing.branch [
      | in-Some b ↦ b.cells-is ∙ b.send_three.ensures ∙ sent _ b.in-Some.is
      | in_default b ↦ b.cells-is ∙ none_sent c.loop-target.cells rs w ∙ sent _ b.in_default.is
    ]
