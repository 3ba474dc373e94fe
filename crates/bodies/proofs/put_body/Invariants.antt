use Rattle.raster.specs.PlaneRows.{plane_rows}
use Rattle.bodies.specs.Body.{RowRoom}
use Rattle.bodies.proofs.LeastRows.{RowsWritten}
use Rattle.bodies.proofs.put_body.Given as goal

abbrev pub invariant-loop-n : goal.invariant-loop-n
invariant-loop-n l =
    RowRoom l.r l.area l.row × RowsWritten (plane_rows l.area l.r) l.initial.out l.out l.n l.end l.records
