-- `dither::dither` meets its contract: the drawn picture is judged, and then wiped or finished. Assumes nothing.
use mathlib.Core.Path.{◌≡◌, ◌∙◌, ap}
use mathlib.Core.List.{List}
use Prim.Native.Nat.{ℕ}
use native.Mathlib.Omega.{arith}
use lib.IntN.{ℤ, pos}
use lib.ListN.{length, replicate}
use Rattle.std.specs.Prelude.{Option}
use Rattle.color.specs.Color.{reduced_at}
use Rattle.reducing.specs.Reduce.{least_alpha}
use Rattle.picture.specs.Pixels.{seen_from}
use Rattle.drawing.specs.Lent.{Lent, lent_by, reduced_bytes}
use Rattle.drawing.proofs.FinishedLaws.{finished_lent}
use Rattle.judging.specs.Tiles.{judged_of}
use Rattle.dither.specs.Mode.{Commission, commission_by, ditherer_of, lent_to, dithering}
use Rattle.dither.specs.Steps.{Fitting}
use Rattle.dither.proofs.DrawnLaws.{at, finishable}
use Rattle.dither.proofs.BudgetLaws.{verdict, judged_over, judged_fits, judged_bytes}
use Rattle.dither.proofs.CallLaws.{completed_over, completed}
use Rattle.dither.proofs.dither.Goals as goal

-- the answer of judging is that of the choices
judged : (q : Commission) {out₀ : List ℕ} {cells₀ : List ℤ} → Fitting q out₀ cells₀ → (least : ℕ) → least ≡ least_alpha q.settings.reducing
    → (reduced : List ℕ) → reduced ≡ reduced_bytes (dithering q) → {v : Option ℕ}
    → let s = q.settings in v ≡ judged_of (seen_from least q.pixels) (reduced_at reduced) s.width s.height s.tile_width s.tile_height s.limit
    → v ≡ verdict q
judged q f least l reduced e v = v ∙ judged_bytes q least l reduced (at q f reduced e)

pub returns-in-Some : goal.returns-in-Some
returns-in-Some c =
    let a = c.args in
    let q = commission_by a.s (lent_by a.lent.now) in
    let v = judged q c.requires.0 c.least_alpha-least.result c.least_alpha-least.ensures c.choose.new.out c.choose.ensures.0 c.judge-over.ensures in
    let out : length c.choose.new.out ≡ length a.out.now = omega arith in
    let cells : length c.choose.new.cells ≡ length a.cells.now = omega arith in
    completed_over q (ap (λ (l : Lent). l.count) c.requires.1) c.in-Some.tile (judged_over q v c.in-Some.tile c.in-Some.is)
    (c.wipe.ensures.0 ∙ ap (λ (n : ℕ). replicate n 0) out) (c.wipe.ensures.1 ∙ ap (λ (n : ℕ). replicate n (pos 0)) cells)

pub finish-requires : goal.finish-requires
finish-requires c = finishable (commission_by c.args.s (lent_by c.args.lent.now)) c.requires.0 c.choose.new.out c.choose.ensures.0

pub returns : goal.returns
returns c =
    let a = c.args in
    let q = commission_by a.s (lent_by a.lent.now) in
    let v = judged q c.requires.0 c.least_alpha-least.result c.least_alpha-least.ensures c.choose.new.out c.choose.ensures.0 c.judge-over.ensures in
    completed q (ap (λ (l : Lent). l.count) c.requires.1) (judged_fits q v c.in_default.is)
    (c.finish.ensures ∙ finished_lent (ditherer_of q.settings _) q.settings.zero (lent_to q) _ c.least_alpha-least.ensures _ c.choose.ensures.0)
    c.choose.ensures.1
