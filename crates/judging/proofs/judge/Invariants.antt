-- The invariants of `judge`: at each of the four loops, what the laws of `ScanLaws` are about.
use Prim.Native.Nat.{◌+◌, ◌*◌}
use Rattle.color.specs.Color.{reduced_at}
use Rattle.picture.specs.Pixels.{seen_from}
use Rattle.judging.specs.Tiles.{tiles_over}
use Rattle.judging.proofs.ScanLaws.{Holding, Scanned}
use Rattle.judging.proofs.judge.Given as goal

abbrev pub invariant-loop-row : goal.invariant-loop-row
invariant-loop-row l =
    let t = l.tiling in Scanned (seen_from l.least l.pixels) (reduced_at l.chosen) t.width t.height t.tile_width t.tile_height t.limit l.row 0

abbrev pub invariant-loop-column : goal.invariant-loop-column
invariant-loop-column l =
    let t = l.tiling in Scanned (seen_from l.least l.pixels) (reduced_at l.chosen) t.width t.height t.tile_width t.tile_height t.limit l.row l.column

abbrev pub invariant-loop-y : goal.invariant-loop-y
invariant-loop-y l =
    let t = l.tiling in
    Holding (seen_from l.least l.pixels) (reduced_at l.chosen) t.width t.tile_width t.tile_height t.limit (tiles_over t.width t.tile_width * l.row + l.column)
    (l.y * t.width) l.colors

abbrev pub invariant-loop-x : goal.invariant-loop-x
invariant-loop-x l =
    let t = l.tiling in
    Holding (seen_from l.least l.pixels) (reduced_at l.chosen) t.width t.tile_width t.tile_height t.limit (tiles_over t.width t.tile_width * l.row + l.column)
    (l.y * t.width + l.x) l.colors
