use Rattle.std.proofs.Common.{◌≡◌, ◌*◌, length, take}
use Rattle.lists.specs.Over.{over}
use Rattle.raster.specs.PlaneRows.{plane_row}
use Rattle.raster.proofs.Raster.copy_row.Given as goal

abbrev pub invariant-loop-g : goal.invariant-loop-g
invariant-loop-g l =
    (length l.row ≡ length l.fn.row) × (l.row ≡ over (take (l.g * 2) (plane_row l.area l.fn.self l.n)) l.fn.row)
