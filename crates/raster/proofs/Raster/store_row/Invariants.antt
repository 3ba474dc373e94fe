use Rattle.std.proofs.Common.{◌≡◌, ◌+◌, ◌*◌, length}
use Rattle.raster.proofs.Strides.{stored}
use Rattle.raster.proofs.Raster.store_row.Given as goal

abbrev pub invariant-loop-g : goal.invariant-loop-g
invariant-loop-g l =
    (length l.area ≡ length l.fn.area)
    × (l.area ≡ stored l.fn.self (l.y * l.fn.self.planes + l.p) l.g l.row l.fn.area)
