-- `judge` meets its contract: what a turn of each of the four loops adds are laws of `ScanLaws`. Assumes nothing.
use native.Mathlib.Omega.{arith}
use Rattle.judging.proofs.TileLaws.{starts, x_starts, y_starts, place, tile_few}
use Rattle.judging.proofs.ScanLaws.{hold_begin, hold_row, hold_turn, hold_next, hold_end, hold_over, scan_tile, scan_found, scan_missed}
use Rattle.judging.proofs.judge.Goals as goal

pub overflow_mul-top : goal.overflow_mul-top
overflow_mul-top c =
    let t = c.args.tiling in
    omega (arith, starts t.height t.tile_height t.some_high c.loop-row.row (omega (arith, c.down-down.ensures)))

pub overflow_add-top : goal.overflow_add-top
overflow_add-top c =
    let t = c.args.tiling in
    omega (arith, starts t.height t.tile_height t.some_high c.loop-row.row (omega (arith, c.down-down.ensures)))

pub overflow_mul-left : goal.overflow_mul-left
overflow_mul-left c =
    let t = c.args.tiling in
    omega (arith, starts t.width t.tile_width t.some_wide c.loop-column.column (omega (arith, c.across-across.ensures)))

pub overflow_add-left : goal.overflow_add-left
overflow_add-left c =
    let t = c.args.tiling in
    omega (arith, starts t.width t.tile_width t.some_wide c.loop-column.column (omega (arith, c.across-across.ensures)))

pub loop-y-init : goal.loop-y-init
loop-y-init c =
    let t = c.args.tiling in
    let p = place t.some_wide t.some_high c.across-across.ensures c.down-down.ensures c.loop-row-test.true c.loop-column-test.true in
    hold_begin _ _ p c.clear.ensures

pub loop-x-init : goal.loop-x-init
loop-x-init c =
    let t = c.args.tiling in
    let p = place t.some_wide t.some_high c.across-across.ensures c.down-down.ensures c.loop-row-test.true c.loop-column-test.true in
    hold_row _ _ p c.loop-y.y c.loop-y.invariant

pub overflow_mul-result : goal.overflow_mul-result
overflow_mul-result c =
    let t = c.args.tiling in
    let p = place t.some_wide t.some_high c.across-across.ensures c.down-down.ensures c.loop-row-test.true c.loop-column-test.true in
    rw c.across-across.ensures (omega (arith, tile_few p t.wide t.tile_wide t.high t.tile_high))

pub overflow_add-result : goal.overflow_add-result
overflow_add-result c =
    let t = c.args.tiling in
    let p = place t.some_wide t.some_high c.across-across.ensures c.down-down.ensures c.loop-row-test.true c.loop-column-test.true in
    rw c.across-across.ensures (omega (arith, tile_few p t.wide t.tile_wide t.high t.tile_high))

pub loop-x-preserved : goal.loop-x-preserved
loop-x-preserved c =
    let t = c.args.tiling in
    let p = place t.some_wide t.some_high c.across-across.ensures c.down-down.ensures c.loop-row-test.true c.loop-column-test.true in
    let y = c.loop-y in
    let x = c.loop-x in
    hold_turn _ _ p y.y x.x x.invariant (omega arith) (omega (arith, c.min-bottom.ensures)) (omega arith) (omega (arith, c.min-right.ensures)) c.add_pixel.ensures
    (omega (arith, c.len.ensures))

pub loop-y-preserved : goal.loop-y-preserved
loop-y-preserved c =
    let t = c.args.tiling in
    let p = place t.some_wide t.some_high c.across-across.ensures c.down-down.ensures c.loop-row-test.true c.loop-column-test.true in
    let y = c.loop-y in
    let x = c.loop-x in
    hold_next _ _ p y.y x.x x.invariant (omega (arith, c.min-right.ensures)) (omega (arith, c.min-right.ensures, x_starts p))

pub loop-column-preserved : goal.loop-column-preserved
loop-column-preserved c =
    let t = c.args.tiling in
    let p = place t.some_wide t.some_high c.across-across.ensures c.down-down.ensures c.loop-row-test.true c.loop-column-test.true in
    let y = c.loop-y in
    scan_tile c.loop-column.invariant p
    (hold_end _ _ p y.y y.invariant (omega (arith, c.min-bottom.ensures)) (omega (arith, c.min-bottom.ensures, y_starts p)))

pub returns-then-limit-len : goal.returns-then-limit-len
returns-then-limit-len c =
    let t = c.args.tiling in
    let p = place t.some_wide t.some_high c.across-across.ensures c.down-down.ensures c.loop-row-test.true c.loop-column-test.true in
    let y = c.loop-y in
    let x = c.loop-x in
    rw c.across-across.ensures
    (scan_found c.loop-column.invariant p
    (hold_over _ _ p y.y x.x x.invariant (omega arith) (omega (arith, c.min-bottom.ensures)) (omega arith) (omega (arith, c.min-right.ensures)) c.add_pixel.ensures
    (omega (arith, c.len.ensures))))

pub returns-after-loop-row : goal.returns-after-loop-row
returns-after-loop-row c = scan_missed c.loop-row.invariant (omega (arith, c.down-down.ensures))
