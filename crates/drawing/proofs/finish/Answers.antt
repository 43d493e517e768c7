-- The answers for `finish`: its contract follows from its invariant.
use mathlib.Core.Path.{◌≡◌, ◌∙◌}
use Rattle.lists.proofs.FillLaws.{fill_begin}
use Rattle.color.specs.Tables.{normalize_color}
use Rattle.picture.specs.Pixels.{seen_from}
use Rattle.drawing.specs.Finished.{finished}
use Rattle.drawing.proofs.FinishLaws.{end_of, finish_at, finish_next, finish_done}
use Rattle.drawing.proofs.finish.Goals as goal

pub loop-i-init : goal.loop-i-init
loop-i-init c = fill_begin 4 _ _

pub loop-i-preserved : goal.loop-i-preserved
loop-i-preserved c =
    let l = c.loop-i in
    let a = c.args in
    let normalize = normalize_color a.scale.now in
    let seen = seen_from a.least a.pixels.now in
    let own = c.rgba_at.ensures ∙ finish_at normalize seen a.out.now l.invariant in
    let e : c.finished_color-c.result ≡ end_of normalize seen a.out.now l.i =
    c.finished_color-c.ensures ∙ (λ t. finished normalize (c.is_seen-seen.ensures t) (record { 0 = own t })) in
    finish_next normalize seen a.out.now l.invariant c.requires.long c.finished_color-c.result c.loop-i-test.true e c.put_rgba.ensures

pub returns : goal.returns
returns c =
    let a = c.args in
    finish_done (normalize_color a.scale.now) (seen_from a.least a.pixels.now) a.out.now c.loop-i.invariant c.requires.long c.loop-i-test.false
