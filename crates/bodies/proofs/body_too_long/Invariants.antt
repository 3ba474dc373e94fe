use Rattle.raster.specs.Shape.{row_bytes}
use Rattle.raster.specs.PlaneRows.{plane_rows}
use Rattle.bodies.specs.Body.{RowRoom}
use Rattle.bodies.proofs.LeastRows.{Most}
use Rattle.bodies.proofs.body_too_long.Given as goal

abbrev pub invariant-loop-n : goal.invariant-loop-n
invariant-loop-n l = RowRoom l.r l.area l.row × Most (plane_rows l.area l.r) (row_bytes l.r) l.n l.most
