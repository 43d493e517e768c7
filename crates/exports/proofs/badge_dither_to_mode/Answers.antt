-- `exports::badge_dither_to_mode` meets its contract: where a number names a reduction, the answer's case decides the number, the count and the tile.
-- Assumes nothing.
use mathlib.Core.Path.{◌≡◌, ap, ◌∙◌, subst}
use Prim.Native.Nat.{ℕ}
use Rattle.std.specs.Prelude.{Option, Result, Err}
use Rattle.color.specs.declared.ReducedColor.{ReducedColor}
use Rattle.reducing.specs.declared.Reducing.{Reducing}
use Rattle.reducing.specs.Reduce.{reducing_number}
use Rattle.dither.specs.declared.DitherError.{DitherError}
use Rattle.dither.specs.Mode.{Commission, Buffers, buffers, DitheredToMode}
use Rattle.exports.specs.Pictures.{named, settings_of, drawn_by, badge_dither_to_mode}
use Rattle.exports.proofs.PictureLaws.{is_named, telling, mode_by_case}
use Rattle.exports.proofs.badge_dither_to_mode.Goals as goal

-- after the call, asked with a number's reduction and the bytes' colour zero: where its answer r is the case y, and leaves `then`
told : (asked : Option ReducedColor → Reducing → Commission) (was : Buffers) (count tile n : ℕ) {zero u : Option ReducedColor} {by : Reducing}
    → reducing_number by ≡ n → u ≡ zero → {r y : Result ℕ DitherError} {then : Buffers} → DitheredToMode (asked u by) was r then → r ≡ y
    → telling then count tile y ≡ named n (λ by. badge_dither_to_mode (asked zero by) was count tile) (1, was, count, tile)
told asked was count tile n {zero} {by = by} e z {r} {then = then} h c =
    mode_by_case _ was count tile (subst (λ (u : Option ReducedColor). DitheredToMode (asked u by) was r then) z h) c
    ∙ is_named n (λ by. badge_dither_to_mode (asked zero by) was count tile) _ e

pub returns-in-Ok-dither_to_mode : goal.returns-in-Ok-dither_to_mode
returns-in-Ok-dither_to_mode c =
    let a = c.args in
    told (λ (zero : Option ReducedColor). drawn_by (settings_of a.shift a.kind a.width a.height a.origin_x a.origin_y a.tile_width a.tile_height a.limit zero)
    a.reduction.now a.scale.now a.pixels.now a.opaque.now) (buffers a.places.now a.oklab.now a.out.now a.cells.now) a.count.now a.tile.now
    a.reducing c.in-Ok.ensures c.color_zero.ensures c.dither_to_mode.ensures c.in-Ok-dither_to_mode.is

pub returns-in-Err-TileOver : goal.returns-in-Err-TileOver
returns-in-Err-TileOver c =
    let a = c.args in
    told (λ (zero : Option ReducedColor). drawn_by (settings_of a.shift a.kind a.width a.height a.origin_x a.origin_y a.tile_width a.tile_height a.limit zero)
    a.reduction.now a.scale.now a.pixels.now a.opaque.now) (buffers a.places.now a.oklab.now a.out.now a.cells.now) a.count.now a.tile.now
    a.reducing c.in-Ok.ensures c.color_zero.ensures c.dither_to_mode.ensures (c.in-Err-TileOver.is ∙ ap Err c.in-Err-TileOver.field-0-is)

pub returns-in-Err-Refused : goal.returns-in-Err-Refused
returns-in-Err-Refused c =
    let a = c.args in
    (λ i. (
      c.from-in-Err-Refused.ensures i,
      buffers c.dither_to_mode.new.places c.dither_to_mode.new.oklab c.dither_to_mode.new.out c.dither_to_mode.new.cells,
      a.count.now,
      a.tile.now,
    ))
    ∙ told (λ (zero : Option ReducedColor). drawn_by (settings_of a.shift a.kind a.width a.height a.origin_x a.origin_y a.tile_width a.tile_height a.limit zero)
    a.reduction.now a.scale.now a.pixels.now a.opaque.now) (buffers a.places.now a.oklab.now a.out.now a.cells.now) a.count.now a.tile.now
    a.reducing c.in-Ok.ensures c.color_zero.ensures c.dither_to_mode.ensures (c.in-Err-Refused.is ∙ ap Err c.in-Err-Refused.field-0-is)
