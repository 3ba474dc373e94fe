use Rattle.std.proofs.Common.{◌≡◌, ◌*◌, length}
use Rattle.raster.specs.PlaneRows.{put_rows}
use Rattle.raster.specs.Spaced.{row_tails}
use Rattle.raster.proofs.putting.Spacing.put_each.Given as goal

abbrev pub invariant-loop-y : goal.invariant-loop-y
invariant-loop-y l =
    let r = l.fn.self.raster in
    (length l.area ≡ length l.fn.area)
    × (l.area ≡ put_rows r (l.y * r.planes) (row_tails r l.fn.self.step l.fn.self.gap l.fn.rows) l.fn.area)
