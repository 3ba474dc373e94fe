-- A plate's raster: in range for packed rows, as long as the papers say, its rows one behind the other.
use mathlib.Core.Path.{◌≡◌, refl}
use mathlib.Core.Bool.{false}
use mathlib.Core.List.{List}
use Prim.Native.Nat.{ℕ, ◌*◌, ◌≤◌}
use lib.ListN.{length, take, drop}
use Rattle.lists.specs.Tabulate.{tabulate}
use Rattle.packbits.specs.Row.{width_out_of_range}
use Rattle.raster.specs.Shape.{row_bytes, bytes}
use Rattle.raster.specs.PlaneRows.{plane_rows}
use Rattle.raster.proofs.Joined.{one-plane-rows}
use Rattle.macpaint.specs.Plate.{plate_raster, plate_bytes}

pub in-range : width_out_of_range (row_bytes plate_raster) ≡ false
in-range = refl

pub plate-bytes : bytes plate_raster ≡ plate_bytes
plate-bytes = refl

-- "720 rows of 72 bytes"
pub plate-rows : (plate : List ℕ) → plate_bytes ≤ length plate
    → plane_rows plate plate_raster ≡ tabulate 720 (λ n. take 72 (drop (n * 72) plate))
plate-rows plate full = one-plane-rows plate plate_raster refl full
