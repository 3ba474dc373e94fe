-- `macpaint::read_by_buffer` meets its contract: the buffer and the area hold the raster.
use Rattle.std.proofs.Common.{ℕ, arith, length}
use Rattle.std.proofs.lemmas.List.{length-replicate}
use Rattle.bodies.proofs.Reading.{into-fits}
use Rattle.macpaint.specs.Layout.{header_length, after_body}
use Rattle.macpaint.specs.Plate.{plate_raster, plate_bytes}
use Rattle.macpaint.proofs.Plate.{in-range}
use Rattle.macpaint.proofs.read_by_buffer.Goals as goal

pub returns : goal.returns
returns c =
    let a = c.args in
    let zeros = length-replicate {A = ℕ} plate_bytes 0 in
    rw (
    into-fits a.file.now header_length after_body plate_raster plate_bytes (length a.area.now) in-range (omega arith) c.requires
    ) at (rw (c.plate_raster.ensures, zeros) at c.read_body.ensures)
