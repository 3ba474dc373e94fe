use Rattle.std.proofs.Common.{◌≡◌, length}
use Rattle.raster.specs.Spaced.{LinePut}
use Rattle.raster.proofs.putting.Spacing.put_line.Given as goal

abbrev pub invariant-loop-p : goal.invariant-loop-p
invariant-loop-p l =
    (length l.area ≡ length l.fn.area)
    × LinePut l.fn.self.raster l.fn.self.step l.fn.self.gap l.fn.rows l.fn.y l.p l.fn.area l.area
